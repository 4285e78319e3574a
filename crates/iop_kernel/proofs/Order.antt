pub mod DeliveryCalls
pub mod Nothing
pub mod Strict
