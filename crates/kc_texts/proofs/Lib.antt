pub mod Fed
pub mod Pieces
pub mod Bytes
pub mod ReadAhead
pub mod Volumes
