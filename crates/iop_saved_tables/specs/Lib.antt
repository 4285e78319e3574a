pub mod Records
pub mod Lines
pub mod Tables
pub mod Opened
pub mod Laws
