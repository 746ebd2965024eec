pub mod Expiring
pub mod ExpiryPoints
pub mod Advancing
pub mod Incrementing
