pub mod Finds
pub mod Partners
pub mod Exchanges
pub mod Passes
pub mod Turns
pub mod Steps
