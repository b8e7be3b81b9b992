pub mod Dump
pub mod Ranges
pub mod Lists
pub mod Sums
pub mod Sound
