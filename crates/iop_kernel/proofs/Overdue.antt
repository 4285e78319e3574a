pub mod Kernels
pub mod Kinds
