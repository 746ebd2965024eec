pub mod Each
pub mod Contents
pub mod Splitting
pub mod Parting
