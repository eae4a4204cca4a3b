pub mod Codes
pub mod Fit
pub mod ManyCodes
pub mod ManyReplies
pub mod Replies
