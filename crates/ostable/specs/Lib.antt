pub mod Periods
pub mod Ahead
pub mod Tables
pub mod Waiting
pub mod Formulas
pub mod Status
