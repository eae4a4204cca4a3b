pub mod Log
pub mod Runs
pub mod Batches
pub mod Writes
pub mod Emptying
pub mod Making
