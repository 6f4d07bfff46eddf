pub mod FieldLemmas
pub mod FoldLemmas
pub mod HeadLemmas
pub mod ReadLemmas
pub mod StatusLemmas
pub mod TextLemmas
pub mod UniqueLemmas
pub mod VisitLemmas
