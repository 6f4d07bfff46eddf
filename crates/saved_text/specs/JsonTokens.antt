-- The tokens of rows whose members stand in the order in which they are written: for private clauses.
use Rattle.std.specs.Prelude.{List, [], ◌∷◌, ◌++◌, ℕ, Option, Some, None, codes}
use Rattle.json.specs.Token.{Token, begin_object, end_object, begin_array, end_array, key, string, boolean}
use Rattle.saved_text.specs.Row.{Shown, Domain, host_only, suffix, not_present, empty}

abbrev pub tokens_of_domain : Domain → List Token
tokens_of_domain (host_only t) = begin_object ∷ key (codes "HostOnly") ∷ string t ∷ end_object ∷ []
tokens_of_domain (suffix t) = begin_object ∷ key (codes "Suffix") ∷ string t ∷ end_object ∷ []
tokens_of_domain not_present = string (codes "NotPresent") ∷ []
tokens_of_domain empty = string (codes "Empty") ∷ []

abbrev pub tokens_of_expires : Option (List ℕ) → List Token
tokens_of_expires (Some date) = begin_object ∷ key (codes "AtUtc") ∷ string date ∷ end_object ∷ []
tokens_of_expires None = string (codes "SessionEnd") ∷ []

abbrev pub tokens_of_path : Shown → List Token
tokens_of_path r = begin_array ∷ string r.path ∷ boolean r.from_attribute ∷ end_array ∷ []

abbrev pub tokens_of_row : Shown → List Token
tokens_of_row r = begin_object ∷ key (codes "raw_cookie") ∷ string r.raw ∷ key (codes "path")
    ∷ (tokens_of_path r ++ key (codes "domain") ∷ (tokens_of_domain r.domain ++ key (codes "expires")
    ∷ (tokens_of_expires r.expires ++ end_object ∷ [])))

-- those of rows, one by one, and what comes behind
abbrev pub tokens_of_rows : List Shown → List Token → List Token
tokens_of_rows [] rest = rest
tokens_of_rows (r ∷ rs) rest = tokens_of_row r ++ tokens_of_rows rs rest
