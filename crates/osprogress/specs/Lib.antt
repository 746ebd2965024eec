pub mod Progress
pub mod Border
