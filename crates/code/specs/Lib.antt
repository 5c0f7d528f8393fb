pub mod Stating
pub mod Published
pub mod Turns
pub mod Table
pub mod Before
