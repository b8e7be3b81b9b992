pub mod Singles
pub mod Rows
pub mod Lines
pub mod Alike
pub mod Laws
