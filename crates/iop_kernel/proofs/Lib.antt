pub mod Bodies
pub mod Keeping
pub mod Order
pub mod Overdue
pub mod Placing
pub mod Readings
pub mod Walk
