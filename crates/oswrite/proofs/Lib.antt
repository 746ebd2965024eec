pub mod Joining
pub mod Said
pub mod Placed
pub mod Restored
pub mod Flat
