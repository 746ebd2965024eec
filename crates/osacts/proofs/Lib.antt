pub mod Seeing
pub mod Law
pub mod Within
pub mod Each
