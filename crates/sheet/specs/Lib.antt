pub mod Reader
pub mod Rewriter
pub mod Writer
