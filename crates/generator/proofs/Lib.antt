-- Laws, in reading order: a mask's value at ω, the walk through a coset and its roots, the factor of a coset and its value, that value
-- by products and by logarithms; then products in their lowest places, and the generator put together.
pub mod AtOmega
pub mod CosetWalk
pub mod Roots
pub mod Factor
pub mod CosetValue
pub mod ByProducts
pub mod ByLogarithms
pub mod LowPlaces
pub mod Assembly
