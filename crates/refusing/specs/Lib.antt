pub mod Commands
pub mod Asked
pub mod Sight
pub mod Numbers
