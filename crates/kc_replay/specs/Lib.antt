pub mod Wave
pub mod Working
pub mod Replayer
pub mod Moving
pub mod Dealing
