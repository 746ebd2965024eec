pub mod Bits
pub mod Ordering
pub mod Linking
pub mod Pooling
pub mod Queueing
