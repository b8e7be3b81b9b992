pub mod Unseen
pub mod AsView
pub mod Private
pub mod HostBlind
pub mod Told
