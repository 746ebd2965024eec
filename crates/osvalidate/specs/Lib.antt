pub mod Words
pub mod Operation
pub mod Action
pub mod Few
pub mod Posted
pub mod Check
pub mod Verdict
