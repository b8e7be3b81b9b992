pub mod Pages
pub mod Unnamed
pub mod Refused
pub mod Own
pub mod Handed
pub mod Comes
pub mod Traces
