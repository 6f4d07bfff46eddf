-- The cookies that a client holds, as they are told (own: docs/DEFINITIONS.md).
use Rattle.std.specs.Prelude.{ℕ, ℤ, ◌≡◌, ◌⊎◌, ◌++◌, Bool, true, false, List, [], ◌∷◌, length}
use Rattle.std.specs.Prelude.{Option, Some, None, is_some}
use Rattle.std.specs.Int.{cast_unsigned, to_le_bytes, w64}
use Rattle.cookie_text.specs.Printing.{is_set}
use Rattle.store_parts.specs.DomainMatch.{Domain, host_only, suffix, not_present, empty}
use Rattle.cookie_store.specs.Rows.{Row, domain_text, live}
use Rattle.fonnalich_c.specs.Given.{IsNoMoment, nanos_of}
use Rattle.fonnalich_c.specs.Items.{item}
use Rattle.fonnalich_c.specs.Parts.{seconds_of, site_number}
use Rattle.fonnalich_c.specs.declared.refusal.Refusal.{Refusal}
use Rattle.fonnalich_c.specs.declared.refusal.Refusal.TheVariants as refusal

-- ---- a cookie

abbrev pub bit : Bool → ℕ
bit true = 1
bit false = 0

abbrev pub is_host_only : Domain → Bool
is_host_only (host_only host) = true
is_host_only (suffix domain) = false
is_host_only not_present = false
is_host_only empty = false

-- the items of its domain, its path, its name and its value
abbrev pub texts_text : Row → List ℕ
texts_text row =
    item (domain_text row) ++ item row.path.text ++ item row.raw.cookie.name ++ item row.raw.cookie.value

-- the second of its end, 0 where it has none, in eight bytes with the lowest first
abbrev pub end_of : Row → List ℕ
end_of row = to_le_bytes w64 (cast_unsigned w64 (seconds_of row.death))

-- whether it has an end, whether its domain is one host alone, whether it is Secure, HttpOnly and Partitioned, and the
-- number of its attribute SameSite
abbrev pub flags_of : Row → List ℕ
flags_of row = bit (is_some row.death) ∷ bit (is_host_only row.domain) ∷ bit (is_set row.raw.cookie.secure)
    ∷ bit (is_set row.raw.cookie.http_only) ∷ bit (is_set row.raw.cookie.partitioned)
    ∷ site_number row.raw.cookie.same_site ∷ []

-- the items of these two
abbrev pub traits_text : Row → List ℕ
traits_text row = item (end_of row) ++ item (flags_of row)

-- the items of a row
abbrev pub row_text : Row → List ℕ
row_text row = texts_text row ++ traits_text row

-- those of each, one behind the other
abbrev pub rows_text : List Row → List ℕ
rows_text [] = []
rows_text (row ∷ rows) = row_text row ++ rows_text rows

-- what is told of a cookie that there may be
abbrev pub found_text : Option Row → List ℕ
found_text None = []
found_text (Some row) = row_text row

-- ---- all of them

-- the items of those that aren't expired at the second
abbrev pub IsListing : ℤ → List Row → List ℕ → Type 0
IsListing second rows answer = answer ≡ rows_text (live (nanos_of second) rows)

-- how many they are, in eight bytes, the lowest first
abbrev pub IsCount : ℤ → List Row → List ℕ → Type 0
IsCount second rows answer = answer ≡ to_le_bytes w64 (length (live (nanos_of second) rows))

-- the second is none, or memory was refused
abbrev pub IsNoListing : ℤ → Refusal → Type 0
IsNoListing second refused = (refused ≡ refusal.Memory) ⊎ ((refused ≡ refusal.Moment) × IsNoMoment second)
