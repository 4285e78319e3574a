pub mod Reading
mod MailboxTables
mod LiveMailboxes
mod Creating
mod Receiving
pub mod Restored
mod StayRestorable
