pub mod Exporting
pub mod Following
pub mod Importing
pub mod Rows
pub mod Starts
pub mod Stubs
