pub mod Wrote
pub mod Text
pub mod Accepted
