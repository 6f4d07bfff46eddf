pub mod DomainLemmas
pub mod PathLemmas
pub mod StandardFacts
