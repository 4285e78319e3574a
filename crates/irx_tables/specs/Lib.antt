pub mod Places
pub mod Imports
pub mod Exports
pub mod Results
pub mod Laws
