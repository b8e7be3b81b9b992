pub mod Sums
pub mod Entries
