pub mod Chain
pub mod Ending
