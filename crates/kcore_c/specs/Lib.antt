pub mod Handle
pub mod Record
pub mod Request
pub mod Status
