mod Flags
pub mod Boards
