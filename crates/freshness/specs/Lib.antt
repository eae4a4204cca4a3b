pub mod Afresh
pub mod Evaluations
pub mod Nodes
pub mod History
pub mod Right
