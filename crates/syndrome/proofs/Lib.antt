-- Laws, in reading order: lanes and lists, a word by its columns, values along cosets, the test, syndromes.
pub mod Lanes
pub mod Listing
pub mod ValueSums
pub mod Roots
pub mod Columning
pub mod Horner
pub mod Setting
pub mod Computing
pub mod Squares
pub mod Extending
pub mod Comparing
pub mod Terms
