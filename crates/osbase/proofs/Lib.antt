pub mod Same
pub mod Phasing
pub mod Tables
pub mod Places
pub mod StatusNumbers
pub mod Few
pub mod Sets
