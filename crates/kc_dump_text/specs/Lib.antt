pub mod DumpText
pub mod Grammar
pub mod Refused
pub mod Words
pub mod Lines
pub mod Places
pub mod Begun
pub mod Faults
