mod Counting
mod Making
pub mod Restored
mod StayRestorable
