pub mod Lanes
pub mod Digests
pub mod MeasureFour
