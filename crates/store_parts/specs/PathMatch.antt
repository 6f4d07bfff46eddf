-- The path of a cookie and the request-uris that it covers (RFC 6265, 5.1.4).
use Rattle.std.specs.Prelude.{◌≡◌, ◌==◌, ℕ, List, [], ◌∷◌, Bool, true, false, Option, Some, None, slice_index}
use Rattle.std.specs.Prelude.{string_bytes, if◌then◌else◌}
use Rattle.std.specs.List.{before_last}
pub use Rattle.matching.specs.Paths.{slash, BeginsWithSlash, MeetAtSlash, IsPathPrefix, PathMatches}
use Rattle.url.specs.Parts.{Parts, cannot_be_a_base}
use Rattle.store_parts.specs.declared.cookie_path.CookiePath.{CookiePath}

-- a cookie's path, and whether it was given by a Path attribute
pub record Path : Type 0 where
  pub text : List ℕ
  pub from_attribute : Bool

-- what contracts see of a `CookiePath`
abbrev pub path_of : CookiePath → Path
path_of path = record { text = string_bytes path.text; from_attribute = path.from_attribute }

-- the path that an attribute-value gives: none unless it begins with `/` (5.2.4)
abbrev pub read_path : List ℕ → Option Path
read_path value =
    if slice_index value 0 == slash then Some (record { text = value; from_attribute = true })
    else None

-- `/` in place of nothing
abbrev pub or_root : List ℕ → List ℕ
or_root [] = slash ∷ []
or_root (b ∷ bs) = b ∷ bs

-- the uri-path up to, but not including, its right-most `/`, or `/` where that is nothing
abbrev pub default_path : List ℕ → List ℕ
default_path uri_path = or_root (before_last (λ b. b == slash) uri_path)

-- the default-path at a URL, whose uri-path counts as empty where it has no hierarchy
abbrev pub default_path_at : Parts → Path
default_path_at url = record {
  text = default_path (if cannot_be_a_base url then [] else url.path);
  from_attribute = false;
}

-- the request-uri's path path-matches the cookie-path, where the URL has a hierarchy
abbrev pub PathMatchesAt : List ℕ → Parts → Type 0
PathMatchesAt cookie_path url =
    (cannot_be_a_base url ≡ false) × PathMatches cookie_path url.path
