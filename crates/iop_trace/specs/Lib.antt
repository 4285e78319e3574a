pub mod Dumps
pub mod Outs
