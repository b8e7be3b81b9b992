pub mod Remarks
pub mod Denials
pub mod Attempts
pub mod Unread
