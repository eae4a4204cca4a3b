pub mod RunLaws
pub mod EmptyLaws
pub mod MakingLaws
mod Examples
