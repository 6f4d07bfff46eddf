-- Where rows read, so does each string of their words.
use Rattle.std.specs.Prelude.{Option, Some, None, flat_map}
use Rattle.std.proofs.Common.{ℕ, ◌++◌, List, [], ◌∷◌, sym, subst, append_assoc}
use Rattle.std.proofs.lemmas.List.{append-nil}
use Rattle.std.specs.List.{All, AllByRecursion}
use Rattle.std.proofs.lemmas.List.Elements.{All-from_recursion, recursion_from_All}
use Rattle.std.proofs.lemmas.List.Sorted.{All-permutation}
use Rattle.saved_text.specs.Grammar.{Word}
use Rattle.saved_text.specs.Grammar.Word.{the_name, letter, the_end}
use Rattle.saved_text.specs.Row.{Shown}
use Rattle.saved_text.specs.RowWords.{SaysRow, SaysRows, field_words}
use Rattle.saved_text.specs.RonReading.{ReadsAs, AreRead}
use Rattle.saved_text.specs.JsonReading.{HasDeath, IsReadable}
use Rattle.saved_text.specs.Words.{string_words}
use Rattle.saved_text.specs.Drafts.{IsWhole, words_of_date}
use Rattle.saved_text.proofs.FieldLemmas.{are_read_both, whole_both, raw_read, path_read, domain_read, date_read}

-- words that read, and a name first
abbrev Reads : List Word → Type 0
Reads said = AreRead [] [] said × IsWhole said

both : (s t : List Word) → Reads s → Reads t → Reads (s ++ t)
both s t a b = (are_read_both [] [] s t b.1 a.0 b.0, whole_both s t a.1 b.1)

death_read : (date : Option (List ℕ)) → HasDeath date → Reads (words_of_date date)
death_read None h = (tt, tt)
death_read (Some text) h = (date_read text h, tt)

parts_read : (parts : List (List Word)) → AllByRecursion Reads parts → Reads (flat_map (λ f. f) parts)
parts_read [] a = (tt, tt)
parts_read (p ∷ parts) a = both p (flat_map (λ f. f) parts) a.0 (parts_read parts a.1)

fields_read : (t : Shown) → IsReadable t → AllByRecursion Reads (field_words t)
fields_read t h = (
  (raw_read t.raw h.0, tt),
  (
    (path_read t.path t.from_attribute, tt),
    ((domain_read t.domain, tt), (death_read t.expires h.1, tt)),
  ),
)

row_reads : (t : Shown) (said : List Word) → SaysRow t said → IsReadable t → Reads said
row_reads t said s h =
    let in_order : All Reads (field_words t) = All-from_recursion Reads (field_words t) (fields_read t h) in
    let any_order : All Reads s.0 = All-permutation Reads (field_words t) s.0 s.1 in_order in
    subst Reads (sym s.2) (parts_read s.0 (recursion_from_All Reads s.0 any_order))

pub rows_read : (ts : List Shown) (said : List Word) → SaysRows ts said → AllByRecursion IsReadable ts → Reads said
rows_read [] said e a = subst Reads (sym e) (tt, tt)
rows_read (t ∷ ts) said s a =
    subst Reads (sym s.4) (both s.0 s.1 (row_reads t s.0 s.2 a.0) (rows_read ts s.1 s.3 a.1))

-- a string in words that read
read_of_letters : (n begun bytes : List ℕ) (t : List Word) → AreRead n begun (string_words bytes ++ t)
    → ReadsAs n (begun ++ bytes)
read_of_letters n begun [] t a = subst (ReadsAs n) (sym (append-nil begun)) a.0
read_of_letters n begun (b ∷ bytes) t a =
    subst (ReadsAs n) (append_assoc begun (b ∷ []) bytes) (read_of_letters n (begun ++ b ∷ []) bytes t a)

pub read_behind : (n begun : List ℕ) (before : List Word) (name value : List ℕ) (t : List Word)
    → AreRead n begun ((before ++ the_name name ∷ []) ++ (string_words value ++ t)) → ReadsAs name value
read_behind n begun [] name value t a = read_of_letters name [] value t a
read_behind n begun (the_name m ∷ before) name value t a = read_behind m [] before name value t a
read_behind n begun (letter b ∷ before) name value t a = read_behind n (begun ++ b ∷ []) before name value t a
read_behind n begun (the_end ∷ before) name value t a = read_behind n [] before name value t a.1
