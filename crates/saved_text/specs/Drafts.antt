-- A row of RON while it is read: for private clauses.
use Rattle.std.specs.Prelude.{
  ◌≡◌,
  ℕ,
  ◌++◌,
  ◌∷◌,
  ◌||◌,
  List,
  [],
  Bool,
  true,
  false,
  Option,
  Some,
  None,
  option_map,
  IsTrue,
  flat_map,
  codes,
  string_bytes,
}
use Rattle.std.specs.List.Sorted.{IsPermutation}
use Rattle.std.specs.Borrow.{Bor}
use Rattle.saved_text.specs.Grammar.{Grammar, Word, IsOf}
use Rattle.saved_text.specs.Grammar.Word.{the_name, letter, the_end}
use Rattle.saved_text.specs.Grammar.Grammar.{nothing, space, seq}
use Rattle.saved_text.specs.Ron.{
  string,
  comma,
  raw_field,
  path_field,
  domain_field,
  expires_field,
  two,
  three,
  four,
  list,
  ron,
  ◌▹◌,
}
use Rattle.saved_text.specs.Reads.{Leads, Takes, Stuck}
use Rattle.saved_text.specs.Row.{Shown, Domain}
use Rattle.saved_text.specs.RowWords.{SaysRow, SaysRows, bool_words, expires_words}
use Rattle.saved_text.specs.RonReading.{ReadsAs, AreRead}
use Rattle.saved_text.specs.Saved.{domain_shown, IsCookieText}
use Rattle.saved_text.specs.JsonReading.{HasDeath, IsReadable, AreShown}
use Rattle.saved_text.specs.Words.{string_words, domain_words}
use Rattle.saved_text.specs.declared.ron_drafts.Draft.{Draft}
use Rattle.saved_text.specs.declared.ron_text.Stop.{Stop}
use Rattle.saved_text.specs.declared.ron_text.Stop.TheVariants as stop
use Rattle.saved_text.specs.declared.row.SavedRow.{SavedRow}

-- ---- a string that doesn't read

-- no word, or a name first
abbrev pub IsWhole : List Word → Type 0
IsWhole [] = Unit {0}
IsWhole (the_name n ∷ said) = Unit {0}
IsWhole (letter b ∷ said) = ⊥
IsWhole (the_end ∷ said) = ⊥

-- Behind words that read, the first string that doesn't stands at the rest, whatever grammar comes behind g.
pub record Unreads (g : Grammar) (text rest : List ℕ) : Type 0 where
  pub before : List Word
  pub name : List ℕ
  pub value : List ℕ
  pub behind : List ℕ
  pub leads : (h : Grammar) → (next : Grammar) × Leads (seq g h) text (before ++ the_name name ∷ []) (seq string next)
      rest
  pub string : Takes string rest (string_words value) behind
  pub whole : IsWhole before
  pub first : AreRead [] [] before
  pub unread : ¬ ReadsAs name value

-- The words read, so that this holds; or the first string that doesn't read stands there.
abbrev pub Marks : Grammar → List ℕ → List Word → Type 0 → Option (Bor (List ℕ)) → Type 0
Marks g text said holds None = AreRead [] [] said × holds
Marks g text said holds (Some q) = Unreads g text q.now

-- ---- the fields that are missing

-- Of the raw cookie, the path, the domain and the death those are missing: the fields that are left, or nothing.
abbrev pub remaining : Bool → Bool → Bool → Bool → Grammar
remaining true true true true = four raw_field path_field domain_field expires_field
remaining false true true true = three path_field domain_field expires_field
remaining true false true true = three raw_field domain_field expires_field
remaining true true false true = three raw_field path_field expires_field
remaining true true true false = three raw_field path_field domain_field
remaining false false true true = two domain_field expires_field
remaining false true false true = two path_field expires_field
remaining false true true false = two path_field domain_field
remaining true false false true = two raw_field expires_field
remaining true false true false = two raw_field domain_field
remaining true true false false = two raw_field path_field
remaining true false false false = raw_field
remaining false true false false = path_field
remaining false false true false = domain_field
remaining false false false true = expires_field
remaining false false false false = nothing

abbrev pub is_lacking : Bool → Bool → Bool → Bool → Bool
is_lacking r p d e = r || p || d || e

-- behind a field: a comma and those that are left, or nothing
abbrev pub after : Bool → Bool → Bool → Bool → Grammar
after true p d e = seq space (comma ▹ remaining true p d e)
after false true d e = seq space (comma ▹ remaining false true d e)
after false false true e = seq space (comma ▹ remaining false false true e)
after false false false true = seq space (comma ▹ remaining false false false true)
after false false false false = nothing

abbrev pub left : Draft → Grammar
left d = remaining d.lacks_raw_cookie d.lacks_path d.lacks_domain d.lacks_expires

abbrev pub left_behind : Draft → Grammar
left_behind d = after d.lacks_raw_cookie d.lacks_path d.lacks_domain d.lacks_expires

abbrev pub IsLacking : Draft → Type 0
IsLacking d = IsTrue (is_lacking d.lacks_raw_cookie d.lacks_path d.lacks_domain d.lacks_expires)

-- ---- what was read of the fields

-- what was read
abbrev pub drafted : Draft → Shown
drafted r = record {
  raw = string_bytes r.raw_cookie;
  path = string_bytes r.path;
  from_attribute =
      r.is_from_path_attr;
  domain = domain_shown r.domain;
  expires = option_map string_bytes r.date;
}

abbrev pub unless : Bool → List Word → List (List Word)
unless true words = []
unless false words = words ∷ []

abbrev pub raw_words : List ℕ → List Word
raw_words text = the_name (codes "raw_cookie") ∷ string_words text

abbrev pub path_words : List ℕ → Bool → List Word
path_words text flag = the_name (codes "path") ∷ (string_words text ++ bool_words flag)

abbrev pub words_of_domain : Domain → List Word
words_of_domain d = the_name (codes "domain") ∷ domain_words d

abbrev pub words_of_date : Option (List ℕ) → List Word
words_of_date date = the_name (codes "expires") ∷ expires_words date

-- the words of the fields that are there
abbrev pub found : Draft → List (List Word)
found d =
    unless d.lacks_raw_cookie (raw_words (string_bytes d.raw_cookie))
    ++ (unless d.lacks_path (path_words (string_bytes d.path) d.is_from_path_attr)
    ++ (unless d.lacks_domain (words_of_domain (domain_shown d.domain))
    ++ unless d.lacks_expires (words_of_date (option_map string_bytes d.date))))

-- what is there reads
pub record IsSound (d : Draft) : Type 0 where
  pub cookie : d.lacks_raw_cookie ≡ false → IsCookieText (string_bytes d.raw_cookie)
  pub death : d.lacks_expires ≡ false → HasDeath (option_map string_bytes d.date)

-- ---- steps

-- One field more was read, up to the rest.
pub record Adds (old : Draft) (text : List ℕ) (new : Draft) (unread : Option (Bor (List ℕ))) (rest : List ℕ) : Type 0
  where
    pub words : List Word
    pub whole : IsWhole words
    pub leads : (h : Grammar) → Leads (seq (left old) h) text words (seq (left_behind new) h) rest
    pub order : IsPermutation (found old ++ words ∷ []) (found new)
    pub marks : Marks (left old) text words (IsSound old → IsSound new) unread

-- The fields of the draft were read behind the text's beginning, and the others are left.
pub record IsDrafted (g : Grammar) (text : List ℕ) (d : Draft) (unread : Option (Bor (List ℕ))) (k : Grammar)
    (rest : List ℕ) : Type 0 where
  pub parts : List (List Word)
  pub order : IsPermutation (found d) parts
  pub whole : IsWhole (flat_map (λ f. f) parts)
  pub leads : (h : Grammar) → Leads (seq g h) text (flat_map (λ f. f) parts) (seq k h) rest
  pub marks : Marks g text (flat_map (λ f. f) parts) (IsSound d) unread

-- A row was read behind the text's beginning.
pub record IsRowRead (g : Grammar) (text : List ℕ) (d : Draft) (unread : Option (Bor (List ℕ))) (rest : List ℕ) : Type
    0 where
  pub said : List Word
  pub says : SaysRow (drafted d) said
  pub whole : IsWhole said
  pub takes : Takes g text said rest
  pub marks : Marks g text said (IsReadable (drafted d)) unread

-- ---- lists

-- Rows were read behind the text's beginning, and k is left.
pub record IsListed (text : List ℕ) (rows : List SavedRow) (unread : Option (Bor (List ℕ))) (k : Grammar)
    (rest : List ℕ) : Type 0 where
  pub shown : List Shown
  pub said : List Word
  pub says : SaysRows shown said
  pub whole : IsWhole said
  pub leads : (h : Grammar) → Leads (seq list h) text said (seq k h) rest
  pub marks : Marks list text said (AreShown shown rows) unread

-- A text is of the grammar and shows rows, or a string in it doesn't read.
pub record IsListRead (g : Grammar) (text : List ℕ) (rows : List SavedRow) (unread : Option (Bor (List ℕ)))
    (rest : List ℕ) : Type 0 where
  pub shown : List Shown
  pub said : List Word
  pub says : SaysRows shown said
  pub takes : Takes g text said rest
  pub marks : Marks g text said (AreShown shown rows) unread

-- ---- whole texts

pub record IsTextRead (text : List ℕ) (rows : List SavedRow) (unread : Option (Bor (List ℕ))) : Type 0 where
  pub shown : List Shown
  pub said : List Word
  pub says : SaysRows shown said
  pub is : IsOf ron text said
  pub only : (other : List Word) → IsOf ron text other → other ≡ said
  pub marks : Marks ron text said (AreShown shown rows) unread

-- The text is not of the grammar, and its longest front ends there; or memory was refused.
abbrev pub StopsText : List ℕ → Stop → Type 0
StopsText text (stop.Here rest) = Stuck (seq ron nothing) text rest.now
StopsText text stop.OutOfMemory = Unit {0}
