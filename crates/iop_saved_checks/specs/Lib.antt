pub mod Waiters
pub mod Idle
pub mod Places
pub mod Objects
pub mod Threads
pub mod Made
pub mod Kernels
pub mod Laws
