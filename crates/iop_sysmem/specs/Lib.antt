pub mod BlockMap
pub mod Placing
pub mod Restoring
pub mod Allocating
pub mod Laws
