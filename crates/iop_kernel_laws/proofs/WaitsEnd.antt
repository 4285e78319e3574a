pub mod Deletions
mod Met
pub mod Services
pub mod Waiters
