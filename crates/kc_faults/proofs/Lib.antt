pub mod Faulted
pub mod Placed
pub mod Told
