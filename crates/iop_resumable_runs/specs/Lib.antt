pub mod Resumable
pub mod Laws
