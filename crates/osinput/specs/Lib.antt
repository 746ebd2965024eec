pub mod Word
pub mod Walk
pub mod Given
