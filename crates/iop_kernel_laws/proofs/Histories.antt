pub mod Calls
pub mod CountedHistories
pub mod Counts
pub mod DeliveredHistories
pub mod Messages
pub mod Telling
