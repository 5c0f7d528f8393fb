pub mod Place
pub mod Interleaved
pub mod Codewords
