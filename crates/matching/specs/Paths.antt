-- The request-paths that the path of a cookie covers (RFC 6265, 5.1.4).
use Rattle.std.specs.Prelude.{◌≡◌, ◌⊎◌, ◌++◌, ◌-◌, ℕ, List, length, Some, slice_get}

-- `b'/'`
abbrev pub slash : ℕ
slash = 47

-- the text begins with `/`
abbrev pub BeginsWithSlash : List ℕ → Type 0
BeginsWithSlash text = slice_get text 0 ≡ Some slash

-- the first text ends with `/`, or the second begins with it
abbrev pub MeetAtSlash : List ℕ → List ℕ → Type 0
MeetAtSlash before after =
    (slice_get before (length before - 1) ≡ Some slash) ⊎ BeginsWithSlash after

-- the cookie-path is a prefix of the request-path, and they part at a `/`
pub record IsPathPrefix (cookie_path request_path : List ℕ) : Type 0 where
  pub rest : List ℕ
  pub split : request_path ≡ cookie_path ++ rest
  pub at_slash : MeetAtSlash cookie_path rest

-- path-match: the paths are identical, or the cookie-path is such a prefix
abbrev pub PathMatches : List ℕ → List ℕ → Type 0
PathMatches cookie_path request_path =
    (request_path ≡ cookie_path) ⊎ IsPathPrefix cookie_path request_path
