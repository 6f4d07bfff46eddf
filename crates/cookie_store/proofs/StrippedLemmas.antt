-- What is put into a bare cookie, one part after the other.
use Rattle.std.proofs.Common.{◌≡◌, ℕ, ℤ, List, refl, sym, ap, ◌∙◌}
use Rattle.std.specs.Prelude.{Option, Some, None}
use Rattle.cookie_text.specs.Record.{Seen, bare, unsliced}
use Rattle.cookie_text.specs.Setting.{with_path, with_domain, with_expires, SetsExpires}
use Rattle.cookie_text.specs.declared.expiration.Expiration.{Expiration}
use Rattle.cookie_text.specs.declared.expiration.Expiration.TheVariants.{DateTime as At, Session}
use Rattle.jiff.specs.Types.{DateTime}
use Rattle.jiff.specs.Words.{civil_nanos}
use Rattle.cookie_store.specs.Steps.{PutsEnd, Puts}
use Rattle.cookie_store.specs.Stripped.{IsEndOf, IsStripped, given_path, given_domain}
use Rattle.cookie_store.specs.StoredCookie.{StoredCookie}

pub sets_end : (end : DateTime) (old new : Seen) → SetsExpires old (At end) new
    → PutsEnd (Some (civil_nanos end)) old new
sets_end end old new (At kept, is, sets) = (Some (At kept), (kept, refl, is), sets)
sets_end end old new (Session, never, sets) = absurd never

-- a cookie with these parts and no others
abbrev cookie_of : List ℕ → List ℕ → Option Expiration → Option (List ℕ) → Option (List ℕ) → Seen
cookie_of name value expires path domain =
    unsliced (record (bare name value) { expires = expires; path = path; domain = domain })

-- an end was put into a cookie
record HasEnd (name value : List ℕ) (death : Option ℤ) (s : Seen) : Type 0 where
  pub expires : Option Expiration
  pub end : IsEndOf death expires
  pub is : s ≡ cookie_of name value expires None None

put_end : (name value : List ℕ) (death : Option ℤ) (old new : Seen)
    → old ≡ unsliced (bare name value) → PutsEnd death old new → HasEnd name value death new
put_end name value None old new is puts = record { expires = None; end = refl; is = puts ∙ is }
put_end name value (Some death) old new is puts = record {
  expires = puts.0;
  end = puts.1;
  is = puts.2 ∙ ap (λ s. with_expires s puts.0) is;
}

put_path : (name value : List ℕ) (e : Option Expiration) (path : Option (List ℕ)) (old new : Seen)
    → old ≡ cookie_of name value e None None → Puts with_path path old new
    → new ≡ cookie_of name value e path None
put_path name value e None old new is puts = puts ∙ is
put_path name value e (Some text) old new is puts = puts ∙ ap (λ s. with_path s (Some text)) is

put_domain : (name value : List ℕ) (e : Option Expiration) (path domain : Option (List ℕ)) (old new : Seen)
    → old ≡ cookie_of name value e path None → Puts with_domain domain old new
    → new ≡ cookie_of name value e path domain
put_domain name value e path None old new is puts = puts ∙ is
put_domain name value e path (Some text) old new is puts =
    puts ∙ ap (λ s. with_domain s (Some text)) is

pub stripped : (c : StoredCookie) (none ended placed all : Seen)
    → none ≡ unsliced (bare c.raw.cookie.name c.raw.cookie.value)
    → PutsEnd c.death none ended
    → Puts with_path (given_path c.path) ended placed
    → Puts with_domain (given_domain c.domain) placed all
    → IsStripped c all
stripped c none ended placed all is end path domain =
    let e = put_end c.raw.cookie.name c.raw.cookie.value c.death none ended is end in
    let p = put_path _ _ e.expires (given_path c.path) ended placed e.is path in
    let d = put_domain _ _ e.expires (given_path c.path) (given_domain c.domain) placed all p domain in
    let same : all.cookie.expires ≡ e.expires = ap (λ s. s.cookie.expires) d in
    record {
      expires = rw same e.end;
      rest = d ∙ ap (λ x. cookie_of c.raw.cookie.name c.raw.cookie.value x
          (given_path c.path) (given_domain c.domain)) (sym same);
    }
