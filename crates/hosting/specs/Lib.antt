pub mod Calls
pub mod Sizes
pub mod Many
