pub mod Coset
pub mod Building
