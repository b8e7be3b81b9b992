pub mod AsView
pub mod Traces
pub mod Lacking
pub mod Blank
