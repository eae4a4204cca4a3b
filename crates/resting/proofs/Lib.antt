pub mod LinkedExact
pub mod QueuedExact
pub mod NodesExact
pub mod NamedExact
pub mod JoinedExact
mod Examples
