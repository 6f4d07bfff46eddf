pub mod Locks
pub mod Locked
