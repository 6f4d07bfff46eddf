mod AgentLemmas
mod ControlLemmas
mod ChangeLemmas
pub mod CrossAnswerLemmas
mod CrossLemmas
pub mod CutLemmas
mod DatedLemmas
mod FindingLemmas
mod FlagLemmas
mod HeaderLemmas
mod IntegrityLemmas
mod JudgingLemmas
mod KnownLemmas
mod LeftLemmas
mod LongLemmas
mod NestedLemmas
mod OneHeaderLemmas
mod PairLemmas
mod PieceLemmas
mod PlaceLemmas
mod RelateLemmas
mod RowLemmas
pub mod SecureReadLemmas
mod SecureRunLemmas
mod SentLemmas
mod SessionLemmas
mod SessionStrictLemmas
pub mod SiteLemmas
mod SiteReadLemmas
pub mod StandingLemmas
mod StrictLemmas
mod StrictRunLemmas
pub mod TokenLemmas
mod WholeLemmas
mod WinningLemmas
