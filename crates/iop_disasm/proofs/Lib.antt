pub mod ListingLemmas
pub mod Widths
