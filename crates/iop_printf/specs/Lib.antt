pub mod Conversions
pub mod Arguments
pub mod Texts
pub mod Formatting
pub mod Laws
