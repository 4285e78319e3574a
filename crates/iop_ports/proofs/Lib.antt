pub mod KeepLemmas
pub mod Shelving
pub mod SinkLemmas
