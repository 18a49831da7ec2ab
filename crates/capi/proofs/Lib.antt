pub mod Determined
pub mod Order
pub mod Demand
