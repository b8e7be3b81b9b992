pub mod Served
pub mod OneFrame
pub mod Answered
pub mod ReplyBytes
