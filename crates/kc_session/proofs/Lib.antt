pub mod Traced
pub mod Begun
