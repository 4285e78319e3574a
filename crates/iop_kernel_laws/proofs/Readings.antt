pub mod Patterns
pub mod Statuses
pub mod Tests
pub mod Times
pub mod Words
