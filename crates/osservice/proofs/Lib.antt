pub mod Partners
pub mod Kept
pub mod Permitted
pub mod SeenSame
pub mod Called
pub mod InTurn
pub mod Numbered
