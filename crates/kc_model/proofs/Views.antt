pub mod Alike
pub mod Steps
pub mod Events
pub mod Calls
