pub mod OwnTasks
pub mod Priorities
pub mod Jobs
pub mod Live
pub mod Ranking
pub mod Queue
pub mod Locks
