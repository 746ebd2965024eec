pub mod CoreNumbers
pub mod Gathering
pub mod Joined
pub mod Quoted
pub mod ReadBack
pub mod Spaced
pub mod Writing
