-- Prefixes of names (the draft that follows RFC 6265, 4.1.3).
use Rattle.std.specs.Prelude.{◌≡◌, ◌≢◌, ℕ, List, ◌++◌, true, Some, None, codes}
use Rattle.cookie_text.specs.Again.{IsBoundTo}
use Rattle.cookie_text.specs.Record.{Seen}
use Rattle.cookie_text.specs.Setting.{with_name, with_secure, with_path, with_domain}

-- the cookie with the prefix before its name: `__Host-sid` for `sid`
abbrev pub prefixed : List ℕ → Seen → Seen
prefixed text s = with_name s (text ++ s.cookie.name)

-- the prefix is taken from the name, where the name has it, as `sid` for `__Host-sid`; another cookie stays as it is
pub record IsClipped (text : List ℕ) (s clipped : Seen) : Type 0 where
  pub has : (rest : List ℕ) → s.cookie.name ≡ text ++ rest → clipped ≡ with_name s rest
  pub lacks : ((rest : List ℕ) → s.cookie.name ≢ text ++ rest) → clipped ≡ s

-- name and value stay
abbrev pub KeepsPair : Seen → Seen → Type 0
KeepsPair old new = (new.cookie.name ≡ old.cookie.name) × (new.cookie.value ≡ old.cookie.value)

-- the texts of the two prefixes
abbrev pub host_text : List ℕ
host_text = codes "__Host-"

abbrev pub secure_text : List ℕ
secure_text = codes "__Secure-"

-- `__Host-`: `Secure`, the path `/` and no domain
abbrev pub host : Seen → Seen
host s = with_domain (with_path (with_secure s (Some true)) (Some (codes "/"))) None

abbrev pub IsHost : Seen → Type 0
IsHost s = IsBoundTo (codes "/") s.cookie

-- `__Secure-`: `Secure`
abbrev pub secure : Seen → Seen
secure s = with_secure s (Some true)

abbrev pub IsSecure : Seen → Type 0
IsSecure s = s.cookie.secure ≡ Some true
