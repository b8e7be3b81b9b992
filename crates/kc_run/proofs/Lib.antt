pub mod Carried
pub mod Unseen
pub mod Unread
pub mod Reading
pub mod Reported
pub mod Measured
