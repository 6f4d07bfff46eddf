-- How rows are written in RON.
use Rattle.std.specs.Prelude.{ℕ, List, [], ◌∷◌, ◌++◌, flat_map, Bool, true, false, Option, Some, None, codes}
use Rattle.saved_text.specs.Row.{Shown, Domain, host_only, suffix, not_present, empty}
use Rattle.saved_text.specs.Written.{quoted}

abbrev pub bool_layout : Bool → List ℕ
bool_layout true = codes "true"
bool_layout false = codes "false"

-- a string in brackets behind its tag
abbrev pub tagged_layout : List ℕ → List ℕ → List ℕ
tagged_layout tag text = tag ++ (quoted text ++ codes ")")

abbrev pub domain_layout : Domain → List ℕ
domain_layout (host_only t) = tagged_layout (codes "HostOnly(") t
domain_layout (suffix t) = tagged_layout (codes "Suffix(") t
domain_layout not_present = codes "NotPresent"
domain_layout empty = codes "Empty"

abbrev pub expires_layout : Option (List ℕ) → List ℕ
expires_layout (Some date) = tagged_layout (codes "AtUtc(") date
expires_layout None = codes "SessionEnd"

-- one item
abbrev pub row_layout : Shown → List ℕ
row_layout r =
    codes "    (\n        raw_cookie: " ++ (quoted r.raw
    ++ (codes ",\n        path: (" ++ (quoted r.path
    ++ (codes ", " ++ (bool_layout r.from_attribute
    ++ (codes "),\n        domain: " ++ (domain_layout r.domain
    ++ (codes ",\n        expires: " ++ (expires_layout r.expires
    ++ codes ",\n    ),\n")))))))))

abbrev pub rows_layout : List Shown → List ℕ
rows_layout rs = flat_map row_layout rs

-- one item after another, and a line feed at the end
abbrev pub ron_layout : List Shown → List ℕ
ron_layout [] = codes "[]\n"
ron_layout (r ∷ rs) = codes "[\n" ++ (rows_layout (r ∷ rs) ++ codes "]\n")
