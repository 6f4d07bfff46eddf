-- What a session keeps is fit to be sent.
use Rattle.std.proofs.Common.{◌≡◌, ℕ, ℤ, pos, List, [], sym, ap, subst, arith, Option, None, Result, Ok, Err}
use Rattle.std.proofs.Common.{Some, true}
use Rattle.std.proofs.Common.{OnOk, OnErr}
use Rattle.std.specs.Prelude.{IfSome}
use Rattle.std.specs.Str.{IsUtf8}
use Rattle.std.specs.FinMap as finmap
use Rattle.std.proofs.lemmas.Int.{ints}
use Rattle.jiff.specs.Types.{DateTime}
use Rattle.jiff_core.specs.Timestamp.{IsDurationNanos}
use Rattle.cookie_text.specs.Record.{Seen, bare, unsliced}
use Rattle.cookie_text.specs.Setting.{MakesRemoval}
use Rattle.cookie.specs.declared.delta.DeltaCookie.TheVariants.{Added}
use Rattle.cookie.specs.Jar.{Jar, Removes}
use Rattle.cookie.specs.Sealing.{IsSealing}
use Rattle.cookie.specs.Signing.{signing}
use Rattle.cookie_client.specs.Jar.{IsKeptAs, IsSent, IsSentJar, ChangesTo, sent, taken}
use Rattle.cookie_client.specs.Ways.{set_refusal, refusal_of, stored_name, is_too_long}
use Rattle.cookie_client.specs.declared.way.Way.{Way}
use Rattle.cookie_client.specs.declared.way.Way.TheVariants.{Plain, Host, Secure, Signed, Sealed}
use Rattle.cookie_client.proofs.Sessions.{then_none, kept_readable, changed_each, takes_each, removal_reads}
use Rattle.cookie_client.proofs.SessionTexts.{kept_named, kept_text, named_text}
use Rattle.cookie_client.proofs.Texts.{nil_utf8}

-- ---- a set

kept_path : (May : List ℕ → Type 0) (key : List ℕ) (way : Way) (s kept : Seen) → IsKeptAs May key way (sent s) kept
    → kept.cookie.path ≡ (sent s).cookie.path
kept_path May key Plain s kept k = ap (λ (x : Seen). x.cookie.path) k
kept_path May key Host s kept k = ap (λ (x : Seen). x.cookie.path) k
kept_path May key Secure s kept k = ap (λ (x : Seen). x.cookie.path) k
kept_path May key Signed s kept k = ap (λ (x : Seen). x.cookie.path) k
kept_path May key Sealed s kept k = ap (λ (x : Seen). x.cookie.path) k.2.3

kept_secure : (May : List ℕ → Type 0) (key : List ℕ) (way : Way) (s kept : Seen) → IsKeptAs May key way (sent s) kept
    → kept.cookie.secure ≡ Some true
kept_secure May key Plain s kept k = ap (λ (x : Seen). x.cookie.secure) k
kept_secure May key Host s kept k = ap (λ (x : Seen). x.cookie.secure) k
kept_secure May key Secure s kept k = ap (λ (x : Seen). x.cookie.secure) k
kept_secure May key Signed s kept k = ap (λ (x : Seen). x.cookie.secure) k
kept_secure May key Sealed s kept k = ap (λ (x : Seen). x.cookie.secure) k.2.3

kept_domain : (May : List ℕ → Type 0) (key : List ℕ) (way : Way) (s kept : Seen) → IsKeptAs May key way (sent s) kept
    → kept.cookie.domain ≡ None
kept_domain May key Plain s kept k = ap (λ (x : Seen). x.cookie.domain) k
kept_domain May key Host s kept k = ap (λ (x : Seen). x.cookie.domain) k
kept_domain May key Secure s kept k = ap (λ (x : Seen). x.cookie.domain) k
kept_domain May key Signed s kept k = ap (λ (x : Seen). x.cookie.domain) k
kept_domain May key Sealed s kept k = ap (λ (x : Seen). x.cookie.domain) k.2.3

kept_age : (May : List ℕ → Type 0) (key : List ℕ) (way : Way) (s kept : Seen) → IsKeptAs May key way (sent s) kept
    → kept.cookie.max_age ≡ s.cookie.max_age
kept_age May key Plain s kept k = ap (λ (x : Seen). x.cookie.max_age) k
kept_age May key Host s kept k = ap (λ (x : Seen). x.cookie.max_age) k
kept_age May key Secure s kept k = ap (λ (x : Seen). x.cookie.max_age) k
kept_age May key Signed s kept k = ap (λ (x : Seen). x.cookie.max_age) k
kept_age May key Sealed s kept k = ap (λ (x : Seen). x.cookie.max_age) k.2.3

kept_sent : (May : List ℕ → Type 0) (key : List ℕ) (way : Way) (s kept : Seen)
    → ((k value : List ℕ) → IsUtf8 value → IsUtf8 (signing k value))
    → ((k name value text : List ℕ) → IsSealing k name value text → IsUtf8 text)
    → IsUtf8 s.cookie.name → IsUtf8 s.cookie.value → IfSome s.cookie.max_age IsDurationNanos
    → refusal_of s.cookie.name s.cookie.expires ≡ None → IsKeptAs May key way (sent s) kept → IsSent kept.cookie
kept_sent May key way s kept signed sealed name value age accepted k = record {
  name = subst IsUtf8 (sym (kept_named May key way (sent s) kept k)) (named_text way s.cookie.name name);
  value = kept_text May key way (sent s) kept signed sealed value k;
  secure = kept_secure May key way s kept k;
  path = kept_path May key way s kept k;
  domain = kept_domain May key way s kept k;
  age = subst (λ (o : Option ℤ). IfSome o IsDurationNanos) (sym (kept_age May key way s kept k)) age;
  readable = kept_readable May key way s kept accepted k;
}

pub set_sent : {E : Type 0} (r : Result (Unit {0}) E) (May : List ℕ → Type 0) (key : List ℕ) (way : Way) (s : Seen)
    (old new : Jar) → ((k value : List ℕ) → IsUtf8 value → IsUtf8 (signing k value))
    → ((k name value text : List ℕ) → IsSealing k name value text → IsUtf8 text)
    → IsUtf8 s.cookie.name → IsUtf8 s.cookie.value → IfSome s.cookie.max_age IsDurationNanos
    → set_refusal way s.cookie ≡ None → OnOk r (ChangesTo May key way s old new) → OnErr r (new ≡ old) → IsSentJar old
    → IsSentJar new
set_sent (Ok x) May key way s old new signed sealed name value age accepted keeps same all =
    subst IsSentJar (sym keeps.2) (changed_each IsSent old keeps.0.cookie.name (Added keeps.0) all
    (kept_sent May key way s keeps.0 signed sealed name value age
    (then_none _ (is_too_long way s.cookie.name s.cookie.value) accepted).0 keeps.1))
set_sent (Err e) May key way s old new signed sealed name value age accepted keeps same all =
    subst IsSentJar (sym same) all

-- ---- a removal

removal_sent : (way : Way) (name : List ℕ) (d r : Seen) (now : DateTime) → IsUtf8 name
    → MakesRemoval (unsliced (bare name [])) now d → refusal_of name d.cookie.expires ≡ None
    → MakesRemoval (taken way name) now r → IsSent r.cookie
removal_sent way name d r now text hd accepted makes = record {
  name = subst IsUtf8 (sym (ap (λ (s : Seen). s.cookie.name) makes.2.2)) (named_text way name text);
  value = subst IsUtf8 (sym (ap (λ (s : Seen). s.cookie.value) makes.2.2)) nil_utf8;
  secure = ap (λ (s : Seen). s.cookie.secure) makes.2.2;
  path = ap (λ (s : Seen). s.cookie.path) makes.2.2;
  domain = ap (λ (s : Seen). s.cookie.domain) makes.2.2;
  age = subst (λ (o : Option ℤ). IfSome o IsDurationNanos) (sym (ap (λ (s : Seen). s.cookie.max_age) makes.2.2))
      zero_age;
  readable = removal_reads way name d r now hd accepted makes;
}
  where
    zero_age : IsDurationNanos (pos 0)
    zero_age = grind (arith, ints)

pub remove_sent : {E : Type 0} (r : Result (Unit {0}) E) (way : Way) (name : List ℕ) (d : Seen) (now : DateTime)
    (old new : Jar) → IsUtf8 name → OnOk r (Removes old (taken way name) now new) → OnErr r (new ≡ old)
    → MakesRemoval (unsliced (bare name [])) now d → refusal_of name d.cookie.expires ≡ None → IsSentJar old
    → IsSentJar new
remove_sent (Ok x) way name d now old new text removes same hd accepted all =
    takes_each IsSent (taken way name) now old new (finmap.get old.originals (stored_name way name)) removes
    (λ r makes. removal_sent way name d r now text hd accepted makes) all
remove_sent (Err x) way name d now old new text removes same hd accepted all = subst IsSentJar (sym same) all
