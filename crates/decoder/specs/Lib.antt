pub mod Correct
pub mod Repair
pub mod Decode
pub mod Marked
pub mod Block
