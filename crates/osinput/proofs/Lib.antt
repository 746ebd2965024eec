pub mod Known
pub mod Walking
pub mod Interrupts
