pub mod Counted
pub mod Device
