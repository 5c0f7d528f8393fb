pub mod Factor
pub mod Independence
pub mod Bits
pub mod Lanes
pub mod Packed
