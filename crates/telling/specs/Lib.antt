pub mod Formulas
pub mod Levels
pub mod Nodes
pub mod Whole
pub mod Rules
