pub mod Words
pub mod Table
pub mod Instructions
pub mod Writing
pub mod Targets
pub mod Registers
