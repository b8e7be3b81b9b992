pub mod ConfigText
pub mod ConfigValue
pub mod Faults
