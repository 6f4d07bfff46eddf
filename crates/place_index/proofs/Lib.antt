pub mod AscendLemmas
pub mod CandidateLemmas
pub mod EndLemmas
pub mod EntryLemmas
pub mod FindLemmas
pub mod FoundLemmas
pub mod IndexLemmas
pub mod ListLemmas
pub mod NameLemmas
pub mod OrderLemmas
pub mod PartLemmas
pub mod PlacesLemmas
pub mod PuttingLemmas
pub mod RowLemmas
pub mod SideLemmas
pub mod StartLemmas
pub mod StepLemmas
mod IndexOutLemmas
mod TakingLemmas
mod RowOutLemmas
