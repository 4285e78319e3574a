pub mod FewerBits
pub mod Settling
mod SettingBits
pub mod Restored
mod StayRestorable
