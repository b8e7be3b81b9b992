pub mod Origins
pub mod Faults
pub mod Outcomes
