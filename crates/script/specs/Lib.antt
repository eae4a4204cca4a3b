pub mod Turns
pub mod Packed
