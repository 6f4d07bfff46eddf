-- Rows that are read from texts of RON, and where a text stops to be read.
use Rattle.std.specs.Prelude.{◌≡◌, ℕ, ◌⊎◌, List, [], ◌∷◌, ◌++◌, length, Some, codes}
use Rattle.std.specs.List.{AllByRecursion}
use Rattle.std.specs.Str.{IsCharBoundary, IsUtf8}
use Rattle.saved_text.specs.Grammar.{Word, IsOf, IsLongestFront}
use Rattle.saved_text.specs.Grammar.Word.{the_name, letter, the_end}
use Rattle.saved_text.specs.Ron.{string, ron}
use Rattle.saved_text.specs.RowWords.{ShowsRon}
use Rattle.saved_text.specs.Row.{Shown}
use Rattle.saved_text.specs.Saved.{IsCookieText}
use Rattle.saved_text.specs.JsonReading.{HasDeath, IsReadable, AreShown}
use Rattle.saved_text.specs.Words.{string_words}
use Rattle.saved_text.specs.declared.error.SavedTextError.{SavedTextError}
use Rattle.saved_text.specs.declared.error.SavedTextError.TheVariants as fault
use Rattle.saved_text.specs.declared.row.SavedRow.{SavedRow}

-- ---- what strings read as

-- A string reads as the name before it asks: a raw cookie as a cookie's text, the string of `AtUtc` as a date.
abbrev pub ReadsAs : List ℕ → List ℕ → Type 0
ReadsAs n value = (n ≡ codes "raw_cookie" → IsCookieText value) × (n ≡ codes "AtUtc" → HasDeath (Some value))

-- Each string of the words reads as the last name before it asks. The first string has these bytes in front, and before
-- the first name stands n.
abbrev pub AreRead : List ℕ → List ℕ → List Word → Type 0
AreRead n begun [] = Unit {0}
AreRead n begun (the_name m ∷ said) = AreRead m [] said
AreRead n begun (letter b ∷ said) = AreRead n (begun ++ b ∷ []) said
AreRead n begun (the_end ∷ said) = ReadsAs n begun × AreRead n [] said

-- ---- the place of a string

-- In a text of RON a string stands at n between these words: whatever string stands in its place, the text says that
-- one there, and all else as before.
pub record IsStringAt (text : List ℕ) (n : ℕ) (before : List Word) (value : List ℕ) (behind : List Word) : Type 0 where
  pub x : List ℕ
  pub quoted : List ℕ
  pub z : List ℕ
  pub split : text ≡ x ++ (quoted ++ z)
  pub place : length x ≡ n
  pub said : IsOf string quoted (string_words value)
  pub stands : (other u : List ℕ) → IsOf string other (string_words u)
      → IsOf ron (x ++ (other ++ z)) (before ++ (string_words u ++ behind))

-- In a text of RON the first string that doesn't read stands at n.
pub record IsUnreadAt (text : List ℕ) (n : ℕ) : Type 0 where
  pub before : List Word
  pub name : List ℕ
  pub value : List ℕ
  pub behind : List Word
  pub place : IsStringAt text n (before ++ the_name name ∷ []) value behind
  pub first : AreRead [] [] before
  pub unread : ¬ ReadsAs name value

-- ---- texts

-- The text shows these rows and no others.
abbrev pub ShowsOnly : List ℕ → List Shown → Type 0
ShowsOnly text shown = ShowsRon text shown × ((others : List Shown) → ShowsRon text others → others ≡ shown)

-- The text shows the rows, and each raw cookie and date in it reads.
abbrev pub ShowsRowsInRon : List ℕ → List SavedRow → Type 0
ShowsRowsInRon text rows = (shown : List Shown) × ShowsOnly text shown × AreShown shown rows

-- The text shows no rows, or a raw cookie or a date in it doesn't read.
abbrev pub ShowsNoRows : List ℕ → Type 0
ShowsNoRows text = (shown : List Shown) → ShowsRon text shown → ¬ AllByRecursion IsReadable shown

-- The text is of no RON, and its longest front has n bytes, which are whole characters.
abbrev pub IsOtherTextFrom : List ℕ → ℕ → Type 0
IsOtherTextFrom text n = ((said : List Word) → ¬ IsOf ron text said) × IsLongestFront ron text n × IsCharBoundary text n

-- No rows are read: the text stops at n to be one of RON, or its first string that doesn't read stands there.
abbrev pub IsRonFaultAt : List ℕ → ℕ → Type 0
IsRonFaultAt text n = ShowsNoRows text × (IsOtherTextFrom text n ⊎ IsUnreadAt text n)

-- Why a text isn't read.
abbrev pub IsRonFault : List ℕ → SavedTextError → Type 0
IsRonFault text (fault.Ron n) = IsRonFaultAt text n
IsRonFault text fault.OutOfMemory = Unit {0}
IsRonFault text fault.NotText = ¬ IsUtf8 text
IsRonFault text fault.Json = ⊥
IsRonFault text fault.Shape = ⊥
