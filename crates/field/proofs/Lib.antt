-- Laws, in reading order: search, masks, the field of a degree, the order of two, tables as they
-- are filled and read.
pub mod Search
pub mod Xor
pub mod Horner
pub mod MaskProduct
pub mod Remainder
pub mod Pigeonhole
pub mod Primitive
pub mod Smallest
pub mod Elements
pub mod Value
pub mod Numbers
pub mod Shifts
pub mod OrderOfTwo
pub mod Filling
pub mod Products
pub mod Exponents
