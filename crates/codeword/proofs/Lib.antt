-- Laws, in reading order: words and messages by their places, eight at once, their spare bits, and words taken
-- out of a block; then the parts of encoding and
-- reading out.
pub mod Places
pub mod Eight
pub mod Spare
pub mod Interleaving
pub mod Words
