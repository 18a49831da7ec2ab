pub mod Dialogue
pub mod Steps
