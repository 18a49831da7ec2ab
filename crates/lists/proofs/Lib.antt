pub mod Picking
pub mod Digits
pub mod ByWord
pub mod Lists
