-- Where the Secure rows stand by their names, while lines come from a URL that isn't secure (the draft that follows
-- RFC 6265, 5.7, step 16).
use Rattle.std.specs.Prelude.{◌≡◌, ◌⊎◌, ℕ, ℤ, Bool, List, [], ◌∷◌, Option, filter, map, option_map, string_bytes}
use Rattle.std.specs.Prelude.{unwrap_or, IfSome, IsTrue}
use Rattle.std.specs.BTreeMap.{BTreeMap, get_by}
use Rattle.std.specs.Cmp.Lexicographic.{slice_cmp}
use Rattle.std.specs.Global.{Vec}
use Rattle.std.specs.Map.{lookup}
use Rattle.std.specs.Ordering.{nat_cmp}
use Rattle.std.specs.Str.{bytes_eq}
use Rattle.url.specs.Parts.{Parts}
use Rattle.store_parts.specs.PathMatch.{PathMatches}
use Rattle.store_parts.specs.Schemes.{IsSecure}
use Rattle.cookie_store.specs.Rows.{Row, domain_text}
use Rattle.user_agent.specs.Integrity.{is_protected}
use Rattle.user_agent.specs.Refusals.{AreNested}
use Rattle.user_agent.specs.SecureWins.{decoded_name}
use Rattle.user_agent.specs.declared.rules.Rules.{Rules}
use Rattle.user_agent.specs.declared.secure_places.Place.{Place}

-- the texts of a row's domain and path
abbrev pub place_of : Row → List ℕ × List ℕ
place_of row = (domain_text row, row.path.text)

-- the row has this decoded name
abbrev pub is_named : List ℕ → Row → Bool
is_named name row = bytes_eq name (decoded_name row)

-- the places of the protected rows of this decoded name, in their order
abbrev pub secure_places_of : ℤ → List ℕ → List Row → List (List ℕ × List ℕ)
secure_places_of now name rows = map place_of (filter (is_named name) (filter (is_protected now) rows))

-- decoded names with their places; or none are kept, and the rule on overlays looks at each row
abbrev pub Places : Type 0
Places = Option (List (List ℕ × List (List ℕ × List ℕ)))

-- the places of a name
abbrev pub listed : List (List ℕ × List (List ℕ × List ℕ)) → List ℕ → List (List ℕ × List ℕ)
listed entries name = unwrap_or (lookup (bytes_eq name) entries) []

-- they are those of the rows
abbrev pub ShowPlaces : Places → ℤ → List Row → Type 0
ShowPlaces places now rows =
    IfSome places (λ entries. (name : List ℕ) → listed entries name ≡ secure_places_of now name rows)

-- and stay so, whatever lines come from the URL: the rules are on by which it changes no protected row
pub record ArePlacesOf (places : Places) (rules : Rules) (url : Parts) (now : ℤ) (rows : List Row) : Type 0 where
  pub shown : ShowPlaces places now rows
  pub stay : IfSome places (λ _. IsTrue rules.secure_from_http × IsTrue rules.secure_overlay × (¬ (IsSecure url)))

-- ---- steps of the code, for private contracts alone

-- the texts of a place
abbrev pub texts_of : Place → List ℕ × List ℕ
texts_of place = (string_bytes place.domain, string_bytes place.path)

-- the map's entries
abbrev pub entries_of : BTreeMap (Vec ℕ) (Vec Place) → List (List ℕ × List (List ℕ × List ℕ))
entries_of places = map (λ (e : Vec ℕ × Vec Place). (e.0.items, map texts_of e.1.items)) places.entries

-- the places that the map has for a name
abbrev pub places_at : BTreeMap (Vec ℕ) (Vec Place) → List ℕ → List (List ℕ × List ℕ)
places_at places name =
    unwrap_or
    (option_map (λ (of_name : Vec Place). map texts_of of_name.items)
    (get_by (λ (k : Vec ℕ). slice_cmp nat_cmp name k.items) places)) []

-- the place is of a domain nested with this one, and of a path that this one matches
abbrev pub IsReached : List ℕ → List ℕ → List ℕ × List ℕ → Type 0
IsReached domain path place = AreNested domain place.0 × PathMatches place.1 path

-- one of the places is
abbrev pub IsOneReached : List ℕ → List ℕ → List (List ℕ × List ℕ) → Type 0
IsOneReached domain path [] = ⊥
IsOneReached domain path (place ∷ places) = IsReached domain path place ⊎ IsOneReached domain path places
