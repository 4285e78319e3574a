pub mod Apart
pub mod Libraries
pub mod Objects
pub mod Writing
