-- The rows that win, where Secure ones do (own: docs/DEFINITIONS.md).
use Rattle.std.specs.Prelude.{◌&&◌, ◌||◌, ℕ, Bool, not, List, filter}
use Rattle.std.specs.BTreeSet.{BTreeSet, contains_by}
use Rattle.std.specs.Cmp.Lexicographic.{slice_cmp}
use Rattle.std.specs.Global.{Vec}
use Rattle.std.specs.List.{list_any}
use Rattle.std.specs.Ordering.{nat_cmp}
use Rattle.std.specs.Str.{bytes_eq}
use Rattle.percent_encoding.specs.Percent.{percent_decode}
use Rattle.cookie_text.specs.Printing.{is_set}
use Rattle.cookie_store.specs.Rows.{Row}

-- the row's name, decoded
abbrev pub decoded_name : Row → List ℕ
decoded_name row = percent_decode row.raw.cookie.name

-- the row is Secure, and has this decoded name
abbrev pub is_secure_of : List ℕ → Row → Bool
is_secure_of name row = is_set row.raw.cookie.secure && bytes_eq name (decoded_name row)

-- the row is Secure, or its decoded name isn't among the names
abbrev pub wins_beside : (List ℕ → Bool) → Row → Bool
wins_beside is_among row = is_set row.raw.cookie.secure || not (is_among (decoded_name row))

-- the row wins among these: it is Secure, or none of them is that has its decoded name
abbrev pub wins : List Row → Row → Bool
wins rows row = wins_beside (λ name. list_any (is_secure_of name) rows) row

-- those that win, in their order
abbrev pub winners : List Row → List Row
winners rows = filter (wins rows) rows

-- ---- a step of the code, for private contracts alone

-- the text is one of the set
abbrev pub is_in : BTreeSet (Vec ℕ) → List ℕ → Bool
is_in names name = contains_by (λ (k : Vec ℕ). slice_cmp nat_cmp name k.items) names
