pub mod Basics
pub mod Homes
pub mod Loads
pub mod Lifts
pub mod Opens
