pub mod Parts
pub mod Reader
pub mod Rewriter
pub mod Store
pub mod Undo
pub mod Writer
