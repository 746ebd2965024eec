pub mod Shape
pub mod Declarations
pub mod Index
