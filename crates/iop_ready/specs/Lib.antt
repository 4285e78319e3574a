pub mod Priorities
pub mod ReadyList
pub mod Queues
pub mod KernelReady
pub mod Laws
