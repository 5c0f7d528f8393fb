pub mod Search
pub mod Mask
pub mod Field
pub mod Tables
