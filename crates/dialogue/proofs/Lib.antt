pub mod Fits
pub mod Parts
pub mod Determined
