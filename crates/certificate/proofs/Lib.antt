-- Laws, in reading order: each rule as the code finds it; then distance, and what decoding is to find, in the words of the definitions.
pub mod Ranges
pub mod Terms
pub mod Checks
pub mod RulesHeld
pub mod Distance
pub mod Sheets
pub mod Decoding
pub mod Shortening
pub mod Marks
