-- Rows in JSON: the value that a row is, and the texts that are written.
use Rattle.std.specs.Prelude.{◌≡◌, ℕ, List, [], ◌∷◌, ◌++◌, Bool, true, false, Option, Some, None, codes}
use Rattle.json.specs.Print.{quoted}
use Rattle.serde_json.specs.Data.{
  Data,
  boolean,
  string,
  array,
  object,
  Items,
  no_items,
  item,
  Members,
  no_members,
  member,
}
use Rattle.serde_json.specs.Read.{read}
use Rattle.saved_text.specs.Row.{Shown, Domain, host_only, suffix, not_present, empty}

-- ---- the value that a row is: an object of exactly these members

abbrev pub domain_value : Domain → Data
domain_value (host_only t) = object (member (codes "HostOnly") (string t) no_members)
domain_value (suffix t) = object (member (codes "Suffix") (string t) no_members)
domain_value not_present = string (codes "NotPresent")
domain_value empty = string (codes "Empty")

abbrev pub expires_value : Option (List ℕ) → Data
expires_value (Some date) = object (member (codes "AtUtc") (string date) no_members)
expires_value None = string (codes "SessionEnd")

abbrev pub path_value : Shown → Data
path_value r = array (item (string r.path) (item (boolean r.from_attribute) no_items))

-- a value's members stand in the order of their names
abbrev pub row_value : Shown → Data
row_value r = object (member (codes "domain") (domain_value r.domain)
    (member (codes "expires") (expires_value r.expires)
    (member (codes "path") (path_value r) (member (codes "raw_cookie") (string r.raw) no_members))))

abbrev pub rows_items : List Shown → Items
rows_items [] = no_items
rows_items (r ∷ rs) = item (row_value r) (rows_items rs)

abbrev pub rows_value : List Shown → Data
rows_value rs = array (rows_items rs)

-- ---- what is written

abbrev pub bool_text : Bool → List ℕ
bool_text true = codes "true"
bool_text false = codes "false"

abbrev pub domain_json : Domain → List ℕ
domain_json (host_only t) = codes "{\"HostOnly\":" ++ (quoted t ++ (codes "}"))
domain_json (suffix t) = codes "{\"Suffix\":" ++ (quoted t ++ (codes "}"))
domain_json not_present = codes "\"NotPresent\""
domain_json empty = codes "\"Empty\""

abbrev pub expires_text : Option (List ℕ) → List ℕ
expires_text (Some date) = codes "{\"AtUtc\":" ++ (quoted date ++ (codes "}"))
expires_text None = codes "\"SessionEnd\""

-- a string behind its tag and before what closes it
abbrev pub tagged_text : List ℕ → List ℕ → List ℕ → List ℕ
tagged_text tag text close = tag ++ (quoted text ++ close)

-- one line
abbrev pub row_text : Shown → List ℕ
row_text r = codes "{\"raw_cookie\":" ++
    (quoted r.raw ++ (codes ",\"path\":[" ++
    (quoted r.path ++ (codes "," ++
    (bool_text r.from_attribute ++ (codes "],\"domain\":" ++
    (domain_json r.domain ++ (codes ",\"expires\":" ++ (expires_text r.expires ++ (codes "}"))))))))))

-- What is written of a row is read as that row.
abbrev pub ReadsBack : Type 0
ReadsBack = (r : Shown) → read (row_text r) ≡ Some (row_value r)

-- ---- one level of a value, for private clauses

-- an object of the four members of a row
abbrev pub four_members : Data → Data → Data → Data → Members
four_members domain expires path raw = member (codes "domain") domain
    (member (codes "expires") expires (member (codes "path") path (member (codes "raw_cookie") raw no_members)))

-- an object of one member
abbrev pub one_member : List ℕ → Data → Members
one_member name d = member name d no_members

-- ---- the list, indented

abbrev pub domain_lines : Domain → List ℕ
domain_lines (host_only t) = codes "{\n      \"HostOnly\": " ++ (quoted t ++ codes "\n    }")
domain_lines (suffix t) = codes "{\n      \"Suffix\": " ++ (quoted t ++ codes "\n    }")
domain_lines not_present = codes "\"NotPresent\""
domain_lines empty = codes "\"Empty\""

abbrev pub expires_lines : Option (List ℕ) → List ℕ
expires_lines (Some date) = codes "{\n      \"AtUtc\": " ++ (quoted date ++ codes "\n    }")
expires_lines None = codes "\"SessionEnd\""

abbrev pub path_lines : Shown → List ℕ
path_lines r = codes "[\n      " ++
    (quoted r.path ++ (codes ",\n      " ++ (bool_text r.from_attribute ++ codes "\n    ]")))

abbrev pub row_lines : Shown → List ℕ
row_lines r = codes "  {\n    \"raw_cookie\": " ++
    (quoted r.raw ++ (codes ",\n    \"path\": " ++
    (path_lines r ++ (codes ",\n    \"domain\": " ++
    (domain_lines r.domain ++ (codes ",\n    \"expires\": " ++ (expires_lines r.expires ++ codes "\n  }")))))))

abbrev pub more_lines : List Shown → List ℕ
more_lines [] = codes "\n]"
more_lines (r ∷ rs) = codes ",\n" ++ (row_lines r ++ more_lines rs)

abbrev pub list_lines : List Shown → List ℕ
list_lines [] = codes "[]"
list_lines (r ∷ rs) = codes "[\n" ++ (row_lines r ++ more_lines rs)

abbrev pub list_text : List Shown → List ℕ
list_text rs = list_lines rs ++ codes "\n"

-- What is written of rows is read as these rows.
abbrev pub ListsReadBack : Type 0
ListsReadBack = (rs : List Shown) → read (list_text rs) ≡ Some (rows_value rs)
