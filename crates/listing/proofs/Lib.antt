-- Laws, in reading order: pieces written one after the other, decimal numbers, and what the lines are made of.
pub mod Writing
pub mod Decimals
pub mod Pieces
pub mod Members
pub mod Whole
pub mod Cards
