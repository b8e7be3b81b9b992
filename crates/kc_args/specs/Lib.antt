pub mod Arguments
pub mod Clashes
pub mod Commands
pub mod Images
pub mod Jobs
pub mod Options
