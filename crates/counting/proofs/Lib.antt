pub mod Sums
pub mod Capacities
mod Examples
