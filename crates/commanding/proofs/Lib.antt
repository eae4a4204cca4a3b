pub mod EngineLaws
pub mod LentLog
pub mod Refused
pub mod AnswerLaws
