pub mod Sending
pub mod Leaving
pub mod Digits
