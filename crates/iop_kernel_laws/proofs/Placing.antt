pub mod ObjectsKept
