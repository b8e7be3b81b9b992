pub mod Made
pub mod Whole
pub mod Taken
pub mod Given
pub mod Placed
pub mod Converts
