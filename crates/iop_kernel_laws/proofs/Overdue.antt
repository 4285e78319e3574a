pub mod Meeting
pub mod Services
