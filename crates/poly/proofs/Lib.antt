-- Laws: slices as polynomials, sums in place, division with cofactors, and the rows of Euclid's algorithm in four slices.
pub mod Slices
pub mod Adding
pub mod Reducing
pub mod TwoTerms
pub mod State
