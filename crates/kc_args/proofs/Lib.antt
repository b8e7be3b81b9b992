pub mod Asking
pub mod Local
pub mod Placed
