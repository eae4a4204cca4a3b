pub mod Fields
pub mod Notify
pub mod Shallow
pub mod Valid
pub mod Visits
pub mod Walks
