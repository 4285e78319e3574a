pub mod WakeConditions
pub mod EventFlags
pub mod Restoring
pub mod Laws
