pub mod Converts
pub mod Kept
pub mod Made
pub mod Reading
pub mod Redacts
