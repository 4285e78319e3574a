pub mod Files
pub mod Sizes
pub mod Forms
pub mod Laws
