pub mod Queue
pub mod Queues
pub mod Walks
pub mod Nodes
pub mod Numbers
pub mod Laws
