pub mod Linking
pub mod Underway
pub mod Laws
