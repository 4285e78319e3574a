pub mod Modules
pub mod Rules
pub mod Scripts
pub mod Texts
pub mod Types
