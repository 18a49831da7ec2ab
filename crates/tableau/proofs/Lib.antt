pub mod Runs
pub mod Adding
pub mod Records
pub mod Reading
pub mod Columns
