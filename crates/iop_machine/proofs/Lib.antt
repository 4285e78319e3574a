mod Elements
mod Forgetting
mod EventLemmas
mod DueEvents
pub mod LinesAside
mod LookingLemmas
mod Coming
mod StandingLemmas
pub mod Stepping
pub mod Reaching
mod CallsLeft
mod LoadingLands
mod LoadingLines
mod Keeping
mod Moving
pub mod KeepingMachine
mod Rests
mod Resting
mod Composing
mod Alike
pub mod Lasting
pub mod Advancing
mod BareRegisters
mod Bursting
mod Delivering
mod Settling
mod Acting
mod Progressing
pub mod ModulesTaken
mod WordsOfModules
mod ServiceLemmas
mod Performing
mod Storing
mod Stubs
mod LoadingLemmas
pub mod Landing
mod Strict
mod Switching
mod ObjectSteps
mod ObjectsHold
mod ObjectsLeft
mod EventsTaken
mod EventsChange
mod Histories
mod Area
mod AreaHolding
mod AreaReading
mod AreaLanding
mod ArgumentReading
mod ListsLeft
pub mod RestoredMachines
pub mod SavedMachines
