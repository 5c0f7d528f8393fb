pub mod Terms
pub mod Locate
