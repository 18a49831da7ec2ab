pub mod Words
pub mod Store
pub mod Ones
