pub mod Spelling
pub mod Listings
pub mod LoadDelay
