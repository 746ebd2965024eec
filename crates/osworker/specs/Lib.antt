pub mod Seats
pub mod Calling
pub mod Working
pub mod Rounds
