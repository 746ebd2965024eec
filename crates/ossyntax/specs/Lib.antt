pub mod Word
pub mod ParsedOp
pub mod Operation
pub mod Action
pub mod Call
