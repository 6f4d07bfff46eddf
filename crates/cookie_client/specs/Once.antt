-- What a line makes, and what is kept of rows, is one (RFC 6265, 5.3, and own: docs/DEFINITIONS.md).
use Rattle.std.specs.Prelude.{◌≡◌, ℕ, ℤ, List, Ok}
use Rattle.cookie_store.specs.Making.{IsMade}
use Rattle.cookie_store.specs.Rows.{Row}
use Rattle.cookie_text.specs.Reading.{ReadsPlain}
use Rattle.cookie_text.specs.Record.{Seen, unsliced}
use Rattle.url.specs.Parts.{Parts}
use Rattle.cookie_client.specs.Keeping.{Keeps}

-- the line reads as a cookie that becomes this row at the URL and the moment
abbrev pub Makes : List ℕ → Parts → ℤ → Row → Type 0
Makes line url now row = (seen : Seen) × ReadsPlain line (Ok seen) × IsMade (unsliced seen.cookie) url now row

-- a line makes one row at most
abbrev pub LinesMakeOneRow : Type 0
LinesMakeOneRow = (line : List ℕ) (url : Parts) (now : ℤ) (a b : Row) → Makes line url now a → Makes line url now b
    → a ≡ b

-- the rows that are kept of these are determined
abbrev pub KeptOnce : Type 0
KeptOnce =
    (rows : List Row) (saving loading : ℤ) (a b : List Row) → Keeps rows saving loading a → Keeps rows saving loading b
    → a ≡ b
