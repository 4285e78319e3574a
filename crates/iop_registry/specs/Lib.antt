pub mod Entries
pub mod KernelLibraries
pub mod Restoring
pub mod Laws
