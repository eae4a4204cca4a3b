-- What the definitions mean, for the proofs of this crate and for others to cite.
pub mod AtRest
pub mod Cases
pub mod Kept
pub mod NotifyLaws
pub mod ShallowLaws
pub mod Tests
pub mod ValidLaws
pub mod VisitLaws
pub mod WalkLaws
