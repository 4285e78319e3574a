pub mod ChoosingLemmas
pub mod Giving
pub mod Lists
pub mod Memory
pub mod Searching
pub mod Bits
