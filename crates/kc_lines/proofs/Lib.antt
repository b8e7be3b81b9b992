pub mod Searches
pub mod Numbers
pub mod Digits
pub mod Digests
pub mod Words
pub mod Newlines
pub mod Encoded
pub mod Values
