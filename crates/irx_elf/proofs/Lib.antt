pub mod Rows
pub mod Headers
pub mod Meeting
pub mod Sound
