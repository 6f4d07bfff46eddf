pub mod InsteadLemmas
pub mod ReadLemmas
pub mod TestLemmas
