-- Laws, in reading order: the code's syndromes are the theory's, what the last test means, the whole; then arrays, bytes, exits, words one after the other; and
-- words with marked places, byte by byte, by their two trials, and as the definition says; and blocks.
pub mod Reception
pub mod Verdict
pub mod Correcting
pub mod Cleared
pub mod Repairing
pub mod Exits
pub mod Parts
pub mod Each
pub mod Weighing
pub mod Trying
pub mod Showing
pub mod Shown
pub mod Answered
pub mod Interleaved
