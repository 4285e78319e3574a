pub mod Names
pub mod Formats
mod Rows
mod Decimal
