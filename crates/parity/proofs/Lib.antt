pub mod Part
pub mod Going
pub mod Offering
pub mod Listing
pub mod Assumed
pub mod Numbering
pub mod Explaineds
pub mod Opens
