pub mod DomainLemmas
pub mod ExpiryLemmas
pub mod PathLemmas
pub mod StandardFacts
