pub mod LevelLaws
pub mod FormulaLaws
pub mod NodeLaws
