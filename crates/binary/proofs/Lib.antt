-- Laws, in reading order: degrees, divisors of numbers and of masks, the period, coefficients, power
-- series; then packed polynomials and registers; then rows, and independent powers.
pub mod Degree
pub mod Coprime
pub mod CommonFactor
pub mod MaskPeriod
pub mod Coefficient
pub mod Series
pub mod Meaning
pub mod Digits
pub mod Packing
pub mod Passing
pub mod Window
pub mod Feeding
pub mod Taking
pub mod Elimination
pub mod RowsHeld
pub mod IndependentPowers
