pub mod Reports
pub mod Opening
pub mod Endings
pub mod Faults
pub mod Ends
pub mod Run
pub mod Measures
pub mod Opened
