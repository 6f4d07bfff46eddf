-- Rows that are asked for by a domain, by a name, or as they are printed (this repository's own).
use Rattle.std.specs.Prelude.{◌≡◌, ◌&&◌, ◌||◌, ◌++◌, ℕ, ℤ, Bool, List, [], ◌∷◌, Option, Some, None, IsSomeAnd}
use Rattle.std.specs.Prelude.{option_and_then, option_map}
use Rattle.std.specs.List.{find}
use Rattle.std.specs.Option.{option_or}
use Rattle.std.specs.Str.{bytes_eq}
use Rattle.store_parts.specs.DomainMatch.{DomainMatches, dot, text_of}
use Rattle.store_parts.specs.DomainText.{read_domain}
use Rattle.cookie_store.specs.Given.{ArePicked}
use Rattle.cookie_store.specs.Longest.{AreGivenLongest}
use Rattle.cookie_store.specs.Rows.{Row, domain_text, found, key, key_of, live, removed}
use Rattle.cookies_txt.specs.Layout.{when}
use Rattle.cookies_txt.specs.Writing.{is_suffix}
use Rattle.cookie_jar.specs.Terminal.{shown}
use Rattle.cookie_jar.specs.declared.asking.Which.{Which}
use Rattle.cookie_jar.specs.declared.asking.Which.TheVariants.{All, For, Under}

-- ---- those of a domain and of those below it

-- the text of the domain that a text gives, which is in IDNA form; none where it has no such form, or nothing is left
abbrev pub domain_form : List ℕ → Option (List ℕ)
domain_form text = option_and_then text_of (read_domain text)

-- those of a list whose domain domain-matches that of the text (RFC 6265, 5.1.3), in their order
abbrev pub AreUnder : List ℕ → List Row → List Row → Type 0
AreUnder domain rows under =
    ArePicked (λ row. IsSomeAnd (domain_form domain) (DomainMatches (domain_text row))) rows under

-- ---- those that are listed

-- all that aren't expired at the moment, those that a request to a URL gets, or those of a domain and below it
abbrev pub AreListed : Which → ℤ → List Row → List Row → Type 0
AreListed All now rows listed = listed ≡ live now rows
AreListed (For url) now rows listed = AreGivenLongest rows url now listed
AreListed (Under domain) now rows listed = AreUnder domain.now (live now rows) listed

-- ---- the first of a name

abbrev pub has_name : List ℕ → Row → Bool
has_name name row = bytes_eq row.raw.cookie.name name

-- the value of the first row of this name
abbrev pub first_value : List ℕ → List Row → Option (List ℕ)
first_value name rows = option_map (λ row. row.raw.cookie.value) (find (has_name name) rows)

-- ---- the row that is meant by a domain, a path and a name

-- its domain as it is printed, with a dot in front where the hosts below it count
abbrev pub domain_field : Row → List ℕ
domain_field row = when (is_suffix row.domain) (dot ∷ []) ++ shown (domain_text row)

-- its domain is printed so, with its dot in front or without
abbrev pub has_domain_printed : List ℕ → Row → Bool
has_domain_printed domain row = bytes_eq (domain_field row) domain || bytes_eq (shown (domain_text row)) domain

-- its domain, path and name are printed so
abbrev pub is_printed_so : List ℕ → List ℕ → List ℕ → Row → Bool
is_printed_so domain path name row =
    bytes_eq (shown row.raw.cookie.name) name
    && (bytes_eq (shown row.path.text) path && has_domain_printed domain row)

-- the row of this key, else the first that is printed so
abbrev pub meant : List ℕ → List ℕ → List ℕ → List Row → Option Row
meant domain path name rows =
    option_or (found (key domain path name) rows) (find (is_printed_so domain path name) rows)

-- the rows without this one
abbrev pub without : Option Row → List Row → List Row
without None rows = rows
without (Some row) rows = removed (key_of row) rows
