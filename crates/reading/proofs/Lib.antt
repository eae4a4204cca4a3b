pub mod StepLaws
pub mod RingLaws
pub mod TreeLaws
pub mod Bounds
pub mod Keeps
pub mod Cases
