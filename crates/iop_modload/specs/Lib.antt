pub mod Modules
pub mod Loading
pub mod Finishing
pub mod Laws
