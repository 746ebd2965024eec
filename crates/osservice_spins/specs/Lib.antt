pub mod Spinlocks
