-- What private functions answer. No public contract names a word of this file.
use Rattle.std.specs.Prelude.{◌≡◌, ℕ, ℤ, List, [], ◌∷◌, Option, Some, None, if◌then◌else◌}
use Rattle.cookie_text.specs.Record.{Seen, bare, unsliced}
use Rattle.cookie_text.specs.Setting.{with_domain, with_expires}
use Rattle.cookie_text.specs.declared.expiration.Expiration.{Expiration}
use Rattle.store_parts.specs.DomainMatch.{Domain, host_only, suffix}
use Rattle.cookie_store.specs.Stripped.{IsEndOf}
use Rattle.cookies_txt.specs.Layout.{CookieLine}
use Rattle.cookies_txt.specs.Reading.{FieldTexts}
use Rattle.cookies_txt.specs.Writing.{flag_of}
use Rattle.cookies_txt.specs.declared.fields.Fields.{Fields}
use Rattle.cookies_txt.specs.declared.line.Line.{Line}

-- what a line says
abbrev pub said_of : Line → CookieLine
said_of line = record {
  http_only = line.http_only;
  domain = line.domain.now;
  below = line.below;
  path = line.path.now;
  secure = line.secure;
  expires = line.expires;
  name = line.name.now;
  value = line.value.now;
}

-- the texts of fields
abbrev pub texts_of : Fields → FieldTexts
texts_of f = record {
  domain = f.domain.now;
  below = f.below.now;
  path = f.path.now;
  secure = f.secure.now;
  expires = f.expires.now;
  name = f.name.now;
  value = f.value.now;
}

-- the last two fields, of which the second may be missing
abbrev pub last_two : List (List ℕ) → Option (List ℕ × List ℕ)
last_two (name ∷ value ∷ []) = Some (name, value)
last_two (name ∷ []) = Some (name, [])
last_two other = None

-- the domain of a line
abbrev pub domain_in : CookieLine → Domain
domain_in line = if line.below then suffix line.domain else host_only line.domain

-- a line's domain is put into a cookie, where the hosts below it count
abbrev pub PutsDomain : CookieLine → Seen → Seen → Type 0
PutsDomain line old new = new ≡ (if line.below then with_domain old (Some line.domain) else old)

-- a death is put into a cookie as its Expires
abbrev pub PutsExpires : Option ℤ → Seen → Seen → Type 0
PutsExpires None old new = new ≡ old
PutsExpires (Some death) old new =
    (expires : Option Expiration) × IsEndOf (Some death) expires × (new ≡ with_expires old expires)

-- the cookie that a line gives, of this death
pub record IsRawOf (line : CookieLine) (death : Option ℤ) (raw : Seen) : Type 0 where
  pub expires : IsEndOf death raw.cookie.expires
  pub rest : raw ≡ unsliced (record (bare line.name line.value) {
    http_only = flag_of line.http_only;
    secure = flag_of line.secure;
    path = Some line.path;
    domain = if line.below then Some line.domain else None;
    expires = raw.cookie.expires;
  })
