pub mod Names
pub mod Opening
pub mod LineLaws
pub mod Lawful
pub mod Telling
