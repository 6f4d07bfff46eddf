pub mod Authority
pub mod Laws
pub mod Plain
