pub mod Numbers
pub mod ProcessorLaws
pub mod ThreadLaws
pub mod ReadyBack
pub mod ReadyInOrder
pub mod ThreadsInOrder
pub mod Telling
