pub mod ClockTime
pub mod Timers
pub mod Turns
pub mod Taking
pub mod Restoring
pub mod Laws
