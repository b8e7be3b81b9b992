mod Limits
mod Lines
mod Spelled
mod Gathered
mod Followed
mod Taken
mod Fronts
pub mod Placed
mod PageWords
mod Chained
pub mod Appended
mod OneText
mod OnePlaced
mod OneRun
mod Refusals
pub mod ToCome
mod Differing
