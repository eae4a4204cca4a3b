pub mod Lists
pub mod Steps
pub mod Series
