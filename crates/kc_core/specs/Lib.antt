pub mod Applying
pub mod Verifying
pub mod Guests
pub mod Hands
pub mod KCore
pub mod Runs
pub mod Locality
