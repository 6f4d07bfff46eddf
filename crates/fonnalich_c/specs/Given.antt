-- What a call is given (own: docs/DEFINITIONS.md).
use Rattle.std.specs.Prelude.{ℕ, ℤ, pos, ◌≡◌, ◌≢◌, ◌⊎◌, ◌*ℤ◌, ◌==◌, Bool, List, [], ◌∷◌, Some, None}
use Rattle.std.specs.List.{slice_split}
use Rattle.std.specs.Str.{IsUtf8}
use Rattle.jiff.specs.Words.{IsCivilNanos}
use Rattle.publicsuffix.specs.declared.error.ListError.{ListError}
use Rattle.publicsuffix.specs.declared.error.ListError.TheVariants as list
use Rattle.publicsuffix.specs.Looks.{IsNotStrange, IsStrange}
use Rattle.publicsuffix.specs.Rules.{Rule}
use Rattle.url.specs.Parts.{Parts}
use Rattle.cookie_client.specs.Loading.{IsSuffixList, IsNoSuffixList}
use Rattle.cookie_client.specs.Hosts.{url_of}
use Rattle.fonnalich_c.specs.declared.refusal.Refusal.{Refusal}
use Rattle.fonnalich_c.specs.declared.refusal.Refusal.TheVariants as refusal

-- ---- a moment

-- the nanoseconds of so many seconds since 1970-01-01T00:00:00
abbrev pub nanos_of : ℤ → ℤ
nanos_of second = second *ℤ pos 1_000_000_000

-- no moment of the years -9999 to 9999 is so many seconds from then
abbrev pub IsNoMoment : ℤ → Type 0
IsNoMoment second = ¬ IsCivilNanos (nanos_of second)

-- ---- a URL

-- the text is UTF-8 and parses as this URL
abbrev pub IsUrl : List ℕ → Parts → Type 0
IsUrl text url = IsUtf8 text × (url_of text ≡ Some url)

abbrev pub IsNoUrl : List ℕ → Type 0
IsNoUrl text = (¬ IsUtf8 text) ⊎ (url_of text ≡ None)

-- a URL beside the text that it was parsed from
pub record Page : Type 0 where
  pub text : List ℕ
  pub url : Parts

-- ---- a list

-- what a refusal to parse a list is told as: want of memory, and every other cause
abbrev pub IsListToldAs : ListError → Refusal → Type 0
IsListToldAs cause told =
    ((cause ≡ list.OutOfMemory) × (told ≡ refusal.Memory)) ⊎ ((cause ≢ list.OutOfMemory) × (told ≡ refusal.List))

-- the rules of the text's list, which has one, and whose first stands in a line of the characters of host names
abbrev pub IsListOf : List ℕ → List Rule → Type 0
IsListOf text rules = (IsSuffixList text rules × IsNotStrange text) × (rules ≢ [])

-- the text is no list, or its first line that isn't passed over is of other characters
abbrev pub IsNoListOfHosts : List ℕ → Type 0
IsNoListOfHosts text = IsNoSuffixList text ⊎ ((number : ℕ) × IsStrange text number)

-- the text is no list, or one without a rule, or memory was refused
abbrev pub IsNoListOf : List ℕ → Refusal → Type 0
IsNoListOf text refused = (refused ≡ refusal.Memory) ⊎ ((refused ≡ refusal.List) × IsNoListOfHosts text)
    ⊎ ((refused ≡ refusal.NoRule) × IsSuffixList text [])

-- ---- lines

-- `b'\n'`
abbrev pub is_line_feed : ℕ → Bool
is_line_feed b = b == 10

-- lines stand between line feeds; an empty text has none
abbrev pub lines_of : List ℕ → List (List ℕ)
lines_of [] = []
lines_of (b ∷ text) = slice_split is_line_feed (b ∷ text)
