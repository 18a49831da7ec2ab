pub mod Systems
pub mod State
pub mod Positions
