pub mod TurnLaws
pub mod Whole
pub mod PackedLaws
