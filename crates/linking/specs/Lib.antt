pub mod Free
pub mod Link
pub mod Neighbours
pub mod Ring
pub mod Table
