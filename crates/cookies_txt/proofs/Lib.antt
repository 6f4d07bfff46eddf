pub mod EntryLemmas
pub mod ExpiryLemmas
pub mod FieldLemmas
pub mod LineLemmas
pub mod PartLemmas
pub mod ReadLemmas
pub mod RowLemmas
pub mod WriteLemmas
