pub mod Interrupts
pub mod Libraries
pub mod Objects
pub mod Threads
