pub mod WaiterQueues
pub mod Objects
pub mod Standing
pub mod Restoring
pub mod Laws
