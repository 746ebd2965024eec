pub mod JobLists
pub mod Room
pub mod Begun
pub mod Histories
pub mod ReadLemmas
pub mod Sounds
