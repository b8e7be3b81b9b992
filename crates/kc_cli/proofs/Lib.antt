pub mod Begun
pub mod Replayed
pub mod Fed
mod Plain
mod Reported
mod Ledgers
mod Headings
mod Ends
mod Digested
mod Blind
mod Marked
mod Told
mod Witnessed
pub mod Sources
pub mod Counted
mod Placed
mod Numbered
mod Volumes
mod Chained
mod Commas
mod Launch
