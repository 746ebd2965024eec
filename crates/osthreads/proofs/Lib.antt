pub mod Senders
pub mod Threaded
pub mod Gathering
pub mod Outfits
pub mod Endings
