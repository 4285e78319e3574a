pub mod Begins
pub mod Left
pub mod Pools
pub mod Where
