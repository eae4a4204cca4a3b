pub mod Scripts
pub mod Table
pub mod Wrong
