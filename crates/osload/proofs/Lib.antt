pub mod Right
pub mod Found
pub mod Meant
pub mod Loops
