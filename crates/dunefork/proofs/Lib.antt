-- Answers of the entries as codes.
pub mod Coded
