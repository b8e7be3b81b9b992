pub mod Following
pub mod Chained
pub mod Marked
pub mod Counted
pub mod Judged
pub mod SoundFrames
pub mod SoundLists
pub mod AllSound
