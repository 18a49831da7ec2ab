pub mod Session
pub mod Pages
