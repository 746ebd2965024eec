pub mod Listed
pub mod Requests
pub mod Working
pub mod Shifting
