pub mod Blank
pub mod Linked
pub mod Depends
pub mod Named
pub mod Flagged
pub mod Queued
pub mod Joined
pub mod AtRest
