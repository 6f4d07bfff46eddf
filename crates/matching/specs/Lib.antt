pub mod Domains
pub mod Paths
