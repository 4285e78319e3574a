pub mod Lines
pub mod Parts
pub mod Drafts
pub mod Units
