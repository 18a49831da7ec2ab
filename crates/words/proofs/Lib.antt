pub mod Bits
pub mod Parity
pub mod Fills
pub mod Tops
