pub mod Numerals
pub mod Wording
pub mod Joining
pub mod KindTexts
pub mod Rows
pub mod RoundTrip
pub mod LastWord
pub mod Meant
pub mod Known
pub mod Alike
pub mod ArgsTexts
pub mod Fitting
pub mod Operations
pub mod ActionTexts
mod FirstWord
