pub mod Streamed
pub mod Ends
pub mod Headed
pub mod Written
pub mod Orders
