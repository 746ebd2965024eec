pub mod Numbers
pub mod Counting
pub mod Least
pub mod Operations
