pub mod Codes
pub mod Histories
pub mod Keeping
pub mod Makers
pub mod Order
pub mod Overdue
pub mod KeptPlaces
pub mod Placing
mod PoolRequests
pub mod Readings
pub mod SoundPools
pub mod Requests
pub mod Switching
pub mod WaitsBegin
pub mod WaitsEnd
pub mod Walk
pub mod Worlds
