pub mod Rows
pub mod Forms
pub mod Naming
pub mod Words
pub mod Items
pub mod Logs
