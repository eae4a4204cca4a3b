pub mod ListLaws
pub mod StepLaws
pub mod SeriesLaws
pub mod Whole
pub mod Inside
mod Examples
