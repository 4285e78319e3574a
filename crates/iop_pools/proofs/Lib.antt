pub mod Reading
pub mod RangesOf
pub mod Outs
pub mod Gaps
pub mod Places
pub mod Tables
pub mod Sound
pub mod Freeing
pub mod Capacity
pub mod Taking
pub mod Sizes
pub mod Making
pub mod Meeting
pub mod MetNext
pub mod Fuller
pub mod Rounding
pub mod KeptPools
pub mod Layouts
pub mod GreatestFree
pub mod LeastPlaces
pub mod LastRanges
pub mod PuttingOut
pub mod EachPool
mod Variable
mod RangesBack
mod PoolsBack
pub mod RegularPools
mod UnitBlocks
mod ChangesOne
mod NextMet
mod MemoryOut
mod MeetsNext
mod Giving
mod Takes
mod RegularTables
mod VariableRegular
pub mod FixedRegular
