mod NumberBytes
mod Middle
mod ReadHeaders
mod ReadInfo
mod ReadSections
mod Accepting
mod MeetRules
mod Parsing
mod Standing
mod Built
mod ReadEntries
pub mod Moved
