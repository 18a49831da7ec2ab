pub mod Field
pub mod Lists
pub mod Rows
pub mod Answers
pub mod Places
pub mod History
