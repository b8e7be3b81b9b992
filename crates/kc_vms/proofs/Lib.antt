pub mod Maps
pub mod Lookups
pub mod Tables
pub mod Changes
pub mod Rising
pub mod Kept
pub mod Rows
mod Judged
mod Filled
