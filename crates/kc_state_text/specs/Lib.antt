pub mod StateText
pub mod Refused
pub mod Words
pub mod Reading
pub mod Faults
pub mod Runs
pub mod Pieces
pub mod Differences
