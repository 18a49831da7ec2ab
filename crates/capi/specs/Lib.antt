pub mod Exports
pub mod FromC
