-- Laws over any commutative ring of characteristic 2, and over any field among them, in reading order.
pub mod Ring
pub mod Power
pub mod Field
pub mod Lists
pub mod Coprime
pub mod Sum
pub mod Series
pub mod Poly
pub mod Divide
pub mod CommonFactor
pub mod Substitute
pub mod Value
pub mod Rows
pub mod KeyEquation
pub mod Alternant
pub mod Weight
