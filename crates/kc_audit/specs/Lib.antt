pub mod Report
pub mod Verdicts
pub mod Findings
pub mod Walking
pub mod Counts
pub mod Marks
