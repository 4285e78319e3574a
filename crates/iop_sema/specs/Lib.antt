pub mod Semaphores
pub mod Restoring
pub mod Laws
