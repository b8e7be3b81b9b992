pub mod Redacted
