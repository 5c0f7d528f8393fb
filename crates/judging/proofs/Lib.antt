pub mod Weighing
pub mod Judging
