pub mod Core
pub mod Meetings
pub mod Memory
pub mod RunningThread
pub mod Steps
