pub mod AskingLemmas
mod ControlLemmas
pub mod EntryLemmas
pub mod ImportLemmas
pub mod ItemLemmas
pub mod KeepLemmas
pub mod KeyLemmas
pub mod LawLemmas
pub mod RowLemmas
pub mod SavingLemmas
pub mod ShownLemmas
pub mod StartedLemmas
pub mod TakeLemmas
pub mod TerminalLemmas
