pub mod Mail
pub mod Ends
pub mod Mailboxes
pub mod Rings
