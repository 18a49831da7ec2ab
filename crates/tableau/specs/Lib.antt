pub mod Layout
pub mod Buffer
pub mod View
