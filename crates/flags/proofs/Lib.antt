-- What the definitions mean, for the proofs of this crate and for others to cite.
pub mod FlagLaws
