pub mod Arithmetic
pub mod Row
pub mod Stepping
pub mod Processors
pub mod Laws
pub mod LoadDelays
