pub mod InsteadLemmas
pub mod KeepLemmas
mod KeptLemmas
pub mod ListLemmas
pub mod ProgramLemmas
pub mod VisitLemmas
