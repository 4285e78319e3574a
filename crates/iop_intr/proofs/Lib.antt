pub mod Views
pub mod Calls
pub mod Changing
pub mod Finding
pub mod Keeping
pub mod PuttingBack
