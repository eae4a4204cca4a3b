-- What the definitions mean, for others to cite.
pub mod SumLaws
pub mod WalkLaws
pub mod Many
pub mod EachLaws
pub mod Exact
pub mod OnceLaws
pub mod Stamps
