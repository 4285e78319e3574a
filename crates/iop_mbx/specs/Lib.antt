pub mod Mailboxes
pub mod Restoring
pub mod Standing
pub mod Laws
