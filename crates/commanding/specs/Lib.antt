pub mod Tables
pub mod Perform
pub mod Command
pub mod Answers
