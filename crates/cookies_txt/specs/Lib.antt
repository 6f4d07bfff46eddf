pub mod Entries
pub mod Laws
pub mod Layout
pub mod Reading
pub mod Steps
pub mod Writing
