pub mod Tables
pub mod Steps
pub mod Ring
pub mod Read
pub mod Works
