pub mod Heads
pub mod Laws
pub mod Lines
pub mod Read
pub mod Visits
