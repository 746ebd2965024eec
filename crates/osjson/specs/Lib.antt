pub mod Reading
pub mod Json
