pub mod Dumping
pub mod Form
pub mod Told
pub mod Unlawful
pub mod Making
