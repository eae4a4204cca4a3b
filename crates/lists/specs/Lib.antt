pub mod Sum
pub mod Walk
pub mod Each
pub mod Once
