pub mod Chains
pub mod Rep
pub mod Reading
pub mod Alike
pub mod Logged
pub mod SameAnswer
pub mod Histories
