pub mod Texts
pub mod Lawful
pub mod Shortness
pub mod ShortScripts
