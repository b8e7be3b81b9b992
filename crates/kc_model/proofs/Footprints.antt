pub mod Grows
pub mod Reaches
pub mod FootprintExamples
