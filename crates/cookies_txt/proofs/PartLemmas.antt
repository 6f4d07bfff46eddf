-- The parts of a line's row: its expiry, and the cookie as it would have been received.
use Rattle.std.proofs.Common.{◌≡◌, ℤ, Bool, true, false, Option, Some, None, refl, sym, ap, subst, ◌∙◌}
use Rattle.std.specs.Prelude.{if◌then◌else◌}
use Rattle.jiff.specs.Types.{DateTime}
use Rattle.jiff_core.specs.DateTime.{civil_nanos}
use Rattle.cookie_text.specs.Record.{Seen, bare, unsliced}
use Rattle.cookie_text.specs.Setting.{SetsExpires, with_domain, with_expires, with_http_only, with_path, with_secure}
use Rattle.cookie_text.specs.declared.expiration.Expiration.{Expiration}
use Rattle.cookie_text.specs.declared.expiration.Expiration.TheVariants.{DateTime as At, Session}
use Rattle.cookie_store.specs.Stripped.{IsEndOf}
use Rattle.cookies_txt.specs.Layout.{CookieLine}
use Rattle.cookies_txt.specs.Steps.{IsRawOf, PutsDomain, PutsExpires}
use Rattle.cookies_txt.specs.Writing.{flag_of}

pub sets_end : (end : DateTime) (old new : Seen) → SetsExpires old (At end) new
    → PutsExpires (Some (civil_nanos end)) old new
sets_end end old new (At kept, is, sets) = (Some (At kept), (kept, refl, is), sets)
sets_end end old new (Session, never, sets) = absurd never

-- a line's cookie with this Expires
abbrev cookie_with : CookieLine → Option Expiration → Seen
cookie_with line expires = unsliced (record (bare line.name line.value) {
  http_only = flag_of line.http_only;
  secure = flag_of line.secure;
  path = Some line.path;
  domain = if line.below then Some line.domain else None;
  expires = expires;
})

-- the parts but Expires were set one after another
abbrev placed : CookieLine → Seen
placed line =
    with_path (with_secure (with_http_only (unsliced (bare line.name line.value)) (flag_of line.http_only))
    (flag_of line.secure)) (Some line.path)

has_domain : (line : CookieLine) → (if line.below then with_domain (placed line) (Some line.domain) else placed line)
    ≡ cookie_with line None
has_domain line = by line.below
  where
    by : (below : Bool)
        → (if below then with_domain (placed line) (Some line.domain) else placed line)
        ≡ unsliced (record (bare line.name line.value) {
          http_only = flag_of line.http_only;
          secure = flag_of line.secure;
          path = Some line.path;
          domain = if below then Some line.domain else None;
        })
    by true = refl
    by false = refl

ends : (line : CookieLine) (death : Option ℤ) (old new : Seen) → old ≡ cookie_with line None
    → PutsExpires death old new → IsRawOf line death new
ends line None old new is puts =
    let none = ap (λ s. s.cookie.expires) (puts ∙ is) in
    record { expires = none; rest = puts ∙ (is ∙ ap (cookie_with line) (sym none)) }
ends line (Some death) old new is (expires, end, puts) =
    let all : new ≡ cookie_with line expires =
    puts ∙ ap (λ s. with_expires s expires) is in
    let same = ap (λ s. s.cookie.expires) all in
    record {
      expires = subst (IsEndOf (Some death)) (sym same) end;
      rest = all ∙ ap (cookie_with line) (sym same);
    }

-- the cookie of a line, its parts set one after another
pub raw_made : (line : CookieLine) (death : Option ℤ) (s0 s1 s2 s3 s4 s5 : Seen)
    → s0 ≡ unsliced (bare line.name line.value) → s1 ≡ with_http_only s0 (flag_of line.http_only)
    → s2 ≡ with_secure s1 (flag_of line.secure) → s3 ≡ with_path s2 (Some line.path) → PutsDomain line s3 s4
    → PutsExpires death s4 s5 → IsRawOf line death s5
raw_made line death s0 s1 s2 s3 s4 s5 e0 e1 e2 e3 e4 e5 =
    let path : s3 ≡ placed line =
    e3 ∙ ap (λ s. with_path s (Some line.path)) (e2 ∙ ap (λ s. with_secure s (flag_of line.secure))
    (e1 ∙ ap (λ s. with_http_only s (flag_of line.http_only)) e0)) in
    ends line death s4 s5
    (e4 ∙ (ap (λ s. if line.below then with_domain s (Some line.domain) else s) path ∙ has_domain line)) e5
