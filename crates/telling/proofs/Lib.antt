pub mod Examples
pub mod Exact
