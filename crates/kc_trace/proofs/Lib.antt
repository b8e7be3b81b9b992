pub mod Newlines
pub mod HeadWords
pub mod HeadWidths
pub mod HeadStages
pub mod Outcomes
pub mod Headers
pub mod HeaderCuts
pub mod Lines
pub mod Spelled
pub mod Cuts
pub mod Runs
pub mod Redacting
pub mod Traces
pub mod Written
mod Pushed
mod Volumes
