pub mod Slice
pub mod Division
pub mod Key
