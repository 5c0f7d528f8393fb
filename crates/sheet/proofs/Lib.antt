-- Why each condition of a sheet is what the code finds, and what it reads is what the sheet states.
pub mod Headed
pub mod Reading
pub mod Marking
pub mod Listed
