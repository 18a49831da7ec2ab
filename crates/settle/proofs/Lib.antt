pub mod Testing
pub mod Putting
pub mod Blocks
pub mod Settles
pub mod Starts
pub mod Restarts
pub mod Follows
