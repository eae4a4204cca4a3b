pub mod Cells
pub mod Trees
pub mod Legal
pub mod Names
