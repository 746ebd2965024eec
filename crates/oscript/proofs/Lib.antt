pub mod Arguments
pub mod Present
pub mod Acting
pub mod Homes
