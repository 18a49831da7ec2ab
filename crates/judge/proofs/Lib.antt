pub mod LineEleven
pub mod Judged
