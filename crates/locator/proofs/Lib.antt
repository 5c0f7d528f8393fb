-- Laws, in reading order.
pub mod Reduction
pub mod Residue
pub mod TermSums
pub mod Lanes
pub mod Entries
pub mod Walking
pub mod Finding
pub mod Reading
pub mod Neighbours
pub mod Searching
