pub mod Free
pub mod Messages
