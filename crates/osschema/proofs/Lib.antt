pub mod Lists
pub mod Naming
pub mod Alone
pub mod Indexing
