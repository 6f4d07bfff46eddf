-- The words that the parts of a row say.
use Rattle.std.specs.Prelude.{ℕ, List, [], ◌∷◌, ◌++◌, codes}
use Rattle.saved_text.specs.Grammar.{Grammar, Word, letters}
use Rattle.saved_text.specs.Grammar.Grammar.{seq, space, sign}
use Rattle.saved_text.specs.Grammar.Word.{the_name, the_end}
use Rattle.saved_text.specs.Ron.{name, bracketed, string}
use Rattle.saved_text.specs.Row.{Domain, host_only, suffix, not_present, empty}

abbrev pub string_words : List ℕ → List Word
string_words bytes = letters bytes ++ the_end ∷ []

abbrev pub domain_words : Domain → List Word
domain_words (host_only t) = the_name (codes "HostOnly") ∷ string_words t
domain_words (suffix t) = the_name (codes "Suffix") ∷ string_words t
domain_words not_present = the_name (codes "NotPresent") ∷ []
domain_words empty = the_name (codes "Empty") ∷ []

-- a name, and a string in brackets
abbrev pub tagged : List ℕ → Grammar
tagged n = seq (name n) (seq space (bracketed string))

-- a name and a colon
abbrev pub heading : List ℕ → Grammar
heading n = seq (name n) (seq space (sign (codes ":")))
