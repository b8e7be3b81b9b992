pub mod ConfigMembers
pub mod KeptValues
pub mod Turns
pub mod Approved
