pub mod Exchanges
pub mod Rings
pub mod Faults
pub mod Flags
pub mod Listings
pub mod Imports
pub mod Parting
pub mod Receiving
pub mod Refusals
pub mod Steps
pub mod Stays
mod Shards
