-- The order of the cookies of a request (RFC 6265, 5.4, step 2): longer paths first.
use Rattle.std.specs.Prelude.{◌≡◌, ◌≤◌, ◌==◌, ⊤, ℕ, ℤ, Bool, List, [], ◌∷◌, length, filter, IsPermutation}
use Rattle.std.specs.List.{AllByRecursion}
use Rattle.url.specs.Parts.{Parts}
use Rattle.cookie_store.specs.Given.{AreGiven}
use Rattle.cookie_store.specs.Rows.{Row}

-- the bytes of the text of its path
abbrev pub path_length : Row → ℕ
path_length row = length row.path.text

abbrev pub has_length : ℕ → Row → Bool
has_length n row = path_length row == n

-- no path is longer than an earlier one
abbrev pub LengthsFall : List Row → Type 0
LengthsFall [] = ⊤
LengthsFall (row ∷ rows) = AllByRecursion (λ later. path_length later ≤ path_length row) rows × LengthsFall rows

-- the second list is the first with longer paths first: the same rows, whose lengths fall, and those of one length in
-- their order
pub record AreLongestFirst (rows ordered : List Row) : Type 0 where
  pub permutation : IsPermutation rows ordered
  pub fall : LengthsFall ordered
  pub stable : (n : ℕ) → filter (has_length n) ordered ≡ filter (has_length n) rows

-- the rows that a request is given, longer paths first
abbrev pub AreGivenLongest : List Row → Parts → ℤ → List Row → Type 0
AreGivenLongest rows url now ordered =
    (given : List Row) × AreGiven rows url now given × AreLongestFirst given ordered
