pub mod Clocked
pub mod Spins
pub mod Words
pub mod Holding
