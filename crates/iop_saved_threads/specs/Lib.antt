pub mod Processors
pub mod Threads
pub mod Tables
pub mod Laws
