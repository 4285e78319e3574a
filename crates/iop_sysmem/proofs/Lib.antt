pub mod Walking
pub mod Changing
pub mod Multiples
pub mod Finding
pub mod MostFree
pub mod Freed
pub mod Keeping
pub mod PuttingBack
