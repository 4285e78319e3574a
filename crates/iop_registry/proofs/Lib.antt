pub mod Keeping
pub mod KernelsOwn
pub mod PuttingBack
