pub mod Words
pub mod Entries
pub mod Kinds
pub mod Fitting
pub mod Relocating
pub mod Walking
