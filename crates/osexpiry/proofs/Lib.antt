pub mod Owned
pub mod Allowed
pub mod Actions
pub mod Postings
pub mod Counted
