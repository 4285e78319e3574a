pub mod Rows
pub mod Fits
pub mod Halves
pub mod Moved
pub mod Steps
