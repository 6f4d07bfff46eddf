-- What the text of a row says, field by field, in whatever order they stand.
use Rattle.std.specs.Prelude.{◌≡◌, ◌<◌, ℕ, List, [], ◌∷◌, ◌++◌, flat_map, Bool, true, false, Option, Some, None, codes}
use Rattle.std.specs.List.{AllByRecursion}
use Rattle.std.specs.List.Sorted.{IsPermutation}
use Rattle.saved_text.specs.Row.{Shown, Domain, host_only, suffix, not_present, empty}
use Rattle.saved_text.specs.Grammar.{Word, IsOf}
use Rattle.saved_text.specs.Grammar.Word.{the_name}
use Rattle.saved_text.specs.Ron.{ron}
use Rattle.saved_text.specs.RonLayout.{ron_layout}
use Rattle.saved_text.specs.Words.{string_words, domain_words}

abbrev pub bool_words : Bool → List Word
bool_words true = the_name (codes "true") ∷ []
bool_words false = the_name (codes "false") ∷ []

abbrev pub expires_words : Option (List ℕ) → List Word
expires_words (Some date) = the_name (codes "AtUtc") ∷ string_words date
expires_words None = the_name (codes "SessionEnd") ∷ []

-- the four fields of a row, each with its name
abbrev pub field_words : Shown → List (List Word)
field_words r =
    (the_name (codes "raw_cookie") ∷ string_words r.raw)
    ∷ (the_name (codes "path") ∷ (string_words r.path ++ bool_words r.from_attribute))
    ∷ (the_name (codes "domain") ∷ domain_words r.domain)
    ∷ (the_name (codes "expires") ∷ expires_words r.expires)
    ∷ []

-- The words say the fields of the row, each once, in any order.
abbrev pub SaysRow : Shown → List Word → Type 0
SaysRow r said = (fields : List (List Word)) × IsPermutation (field_words r) fields × (said ≡ flat_map (λ f. f) fields)

-- The words say the rows, one after another.
abbrev pub SaysRows : List Shown → List Word → Type 0
SaysRows [] said = said ≡ []
SaysRows (r ∷ rs) said = (s t : List Word) × SaysRow r s × SaysRows rs t × (said ≡ s ++ t)

-- A text of RON shows these rows.
abbrev pub ShowsRon : List ℕ → List Shown → Type 0
ShowsRon text rs = (said : List Word) × IsOf ron text said × SaysRows rs said

abbrev pub AreBytes : List ℕ → Type 0
AreBytes bytes = AllByRecursion (λ b. b < 256) bytes

abbrev pub text_in_domain : Domain → List ℕ
text_in_domain (host_only t) = t
text_in_domain (suffix t) = t
text_in_domain not_present = []
text_in_domain empty = []

abbrev pub text_of_date : Option (List ℕ) → List ℕ
text_of_date (Some date) = date
text_of_date None = []

-- the texts of a row are bytes
pub record IsRowOfBytes (r : Shown) : Type 0 where
  pub raw : AreBytes r.raw
  pub path : AreBytes r.path
  pub domain : AreBytes (text_in_domain r.domain)
  pub date : AreBytes (text_of_date r.expires)

-- What is written of rows is of the grammar, and shows these very rows.
abbrev pub WrittenIsOfGrammar : Type 0
WrittenIsOfGrammar = (rs : List Shown) → AllByRecursion IsRowOfBytes rs → ShowsRon (ron_layout rs) rs
