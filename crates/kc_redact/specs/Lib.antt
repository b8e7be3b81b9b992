pub mod Redacted
pub mod Written
pub mod Witness
