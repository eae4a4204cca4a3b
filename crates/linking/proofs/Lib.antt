-- What the definitions mean, for the proofs of this crate and for others to cite.
mod Cases
pub mod FreeLaws
pub mod Kept
pub mod LinkLaws
pub mod RingLaws
pub mod Untouched
