pub mod InterruptLines
pub mod LineViews
pub mod Restoring
pub mod Laws
