pub mod OfCommand
pub mod NoWeaker
pub mod Spare
pub mod Tried
