pub mod Times
pub mod Linked
pub mod Once
pub mod Chains
pub mod Steps
pub mod Others
pub mod Neighbours
