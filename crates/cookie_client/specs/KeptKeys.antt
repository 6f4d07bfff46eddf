-- What a restart leaves of a client's rows: some of those that are saved, each with its key (own: docs/DEFINITIONS.md).
use Rattle.std.specs.Prelude.{◌≡◌, ℤ, pos, ◌≤ℤ◌, List}
use Rattle.cookie_text.specs.ReadingBack.{Pairwise}
use Rattle.jiff.specs.Types.{DateTime}
use Rattle.jiff.specs.Words.{civil_nanos}
use Rattle.store_parts.specs.declared.error.Error.{Error}
use Rattle.store_parts.specs.declared.error.Error.TheVariants.{OutOfMemory}
use Rattle.cookie_store.specs.Grouped.{IsSublist}
use Rattle.cookie_store.specs.Placing.{saved}
use Rattle.cookie_store.specs.Rows.{Row}
use Rattle.cookie_store.specs.SavedRows.{IsWholeDeath}
use Rattle.cookie_store.specs.SavedTexts.{IsSaveFault}
use Rattle.cookie_client.specs.Keeping.{Keeps, HaveReadPairs}

-- the second row has the first one's key and value, its whole domain and path, and its death without its fraction
pub record IsRowKept (row other : Row) : Type 0 where
  pub domain : other.domain ≡ row.domain
  pub path : other.path ≡ row.path
  pub name : other.raw.cookie.name ≡ row.raw.cookie.name
  pub value : other.raw.cookie.value ≡ row.raw.cookie.value
  pub death : IsWholeDeath row.death other.death

-- some of the rows that are saved at a moment, in their order, each kept so, and none besides
abbrev pub KeepsKeys : List Row → ℤ → List Row → Type 0
KeepsKeys rows saving kept =
    (part : List Row) × IsSublist part (saved saving rows) × Pairwise IsRowKept part kept

-- where names and values are as texts give them, nothing else is left of rows that are saved and loaded again
abbrev pub RestartsKeepKeys : Type 0
RestartsKeepKeys =
    (rows : List Row) (saving loading : ℤ) (kept : List Row) → HaveReadPairs rows → Keeps rows saving loading kept
    → KeepsKeys rows saving kept

-- what is saved in the year 0 or later lacks a saved text for want of memory alone
abbrev pub SavesButForMemory : Type 0
SavesButForMemory =
    (rows : List Row) (now : DateTime) (e : Error) → pos 0 ≤ℤ now.date.year
    → IsSaveFault (saved (civil_nanos now) rows) e → e ≡ OutOfMemory
