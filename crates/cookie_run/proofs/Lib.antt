pub mod ReadBack
pub mod Records
pub mod Showing
pub mod Kepts
pub mod OwnRows
pub mod Received
pub mod Lines
pub mod Longest
pub mod GivenRows
pub mod Walking
pub mod Commands
pub mod RingPlainLemmas
pub mod RingGiven
pub mod RingTexts
pub mod RingAlike
pub mod RingMirrors
pub mod ActMoments
pub mod Exchange
pub mod Restarting
pub mod Removals
pub mod Promises
pub mod FromLines
pub mod Sites
pub mod HostSites
pub mod RingSites
pub mod EndingDeaths
pub mod RingOfOneLemmas
pub mod Brought
pub mod Runs
pub mod DrawnRuns
pub mod RingDrawnRuns
pub mod ScriptLines
pub mod ScriptRings
pub mod ScriptNumbers
pub mod Shown
pub mod Calendar
pub mod Ends
pub mod ScriptEndings
pub mod Standings
pub mod Halting
pub mod ScriptRun
pub mod ScriptAgrees
pub mod ProgramFacts
pub mod Following
pub mod Picks
pub mod Tried
pub mod Sound
pub mod AloneRuns
pub mod Strangers
pub mod Untouched
mod Facts
mod SiteFacts
mod Example
mod RingFacts
mod RelatedFacts
mod HostFacts
mod VisitFacts
pub mod HostRows
pub mod MappedSteps
mod ShardReach
mod ShardLemmas
mod ShardRuns
mod ShardPresence
mod ShardCuts
mod ShardMade
mod ShardWeb
