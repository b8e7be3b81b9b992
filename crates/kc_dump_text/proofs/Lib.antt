mod Spelled
pub mod ReadWords
pub mod ReadLines
mod Chains
mod Growing
pub mod Followed
mod Stopped
