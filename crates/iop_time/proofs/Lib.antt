pub mod Keeping
mod Comparing
mod Firsts
mod Least
pub mod Leaving
pub mod Nexts
mod Numbers
pub mod PuttingBack
pub mod Results
pub mod Rooms
