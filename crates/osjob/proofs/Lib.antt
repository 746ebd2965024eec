pub mod Printing
pub mod Reading
pub mod Lines
pub mod Grouping
pub mod Unread
pub mod Logging
pub mod Replaying
pub mod Ordering
