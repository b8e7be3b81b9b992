pub mod Digests
pub mod Drawn
pub mod InRange
mod Made
pub mod InForm
pub mod OneState
mod Mapped
mod Mappings
mod Shows
mod Shown
mod Assembled
mod Refused
mod Shares
mod Pages
