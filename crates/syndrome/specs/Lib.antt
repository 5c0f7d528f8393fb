pub mod Sums
pub mod Columns
pub mod Value
pub mod Series
