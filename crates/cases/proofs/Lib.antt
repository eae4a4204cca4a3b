pub mod AllCases
pub mod Wrong
