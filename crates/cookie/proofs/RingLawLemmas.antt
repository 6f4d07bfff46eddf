-- What a ring of one key reads, and what a ring reads of a cookie right after it was added.
use Rattle.std.proofs.Common.{◌≡◌, ◌⊎◌, inl, inr, ℕ, zero, suc, ◌+◌, ◌<◌, ◌≤◌, List, length, Option, Some, None}
use Rattle.std.proofs.Common.{refl, ap, sym, subst, ◌∙◌, arith}
use Rattle.std.proofs.lemmas.Bool.{cases_lt}
use Rattle.std.specs.Str.{IsUtf8}
use Rattle.jiff.specs.Types.{DateTime}
use Rattle.cookie_text.specs.Record.{Seen}
use Rattle.cookie_text.specs.Setting.{with_value}
use Rattle.cookie.specs.Jar.{Jar}
use Rattle.cookie.specs.Key.{encryption_half}
use Rattle.cookie.specs.KeyRing.{Ring, alone, key_at, ReadsFoundUnder, ReadsUnder}
use Rattle.cookie.specs.Laws.{given_after}
use Rattle.cookie.specs.Reading.{IsSigned, IsSealed}
use Rattle.cookie.specs.RingLaws.{IsThatKey, IsReadByCurrent, SignedReadsBackUnder, PrivateReadsBackUnder}
use Rattle.cookie.specs.Sealing.{IsSealing, IsSealedAs}
use Rattle.cookie.specs.Signing.{signing}
use Rattle.cookie.proofs.LawLemmas.{given, one_value, OpensOne}
use Rattle.cookie.proofs.SealingLemmas.{TagsHave16}
use Rattle.cookie.proofs.SigningLemmas.{CodesHave32, drop-signing}

-- ---- a ring of one key

only_place : (key : List ℕ) (now : DateTime) (p : ℕ) (k : List ℕ) → key_at now (alone key) p ≡ Some k
    → (p ≡ 0) × (k ≡ key)
only_place key now zero k at = (refl, let same : k ≡ key = cc at in same)
only_place key now (suc n) k at = let no : ⊥ = cc at in absurd no

pub is_that_key : (StandsFor : List ℕ → Seen → List ℕ → Type 0) → IsThatKey StandsFor
is_that_key StandsFor key now None None = (λ e. (refl, tt), λ h. refl)
is_that_key StandsFor key now None (Some r) =
    (λ e. let no : ⊥ = cc e in absurd no, λ h. let is = h.0 in let no : ⊥ = cc is in absurd no)
is_that_key StandsFor key now (Some stored) None = (
  λ none. (λ v. none 0 key v refl, tt),
  λ h p k v at stands.
      h.0 v (subst (λ (q : List ℕ). StandsFor q stored v) (only_place key now p k at).1 stands),
)
is_that_key StandsFor key now (Some stored) (Some r) = (
  λ h. let only = only_place key now r.1 h.1.key h.1.counts in
      ((h.0, subst (λ (q : List ℕ). StandsFor q stored h.0) only.1 h.1.gives, h.2), only.0),
  λ h. let here : r.1 ≡ 0 = h.1 in (
    h.0.0,
    record {
      key = key;
      counts = subst (λ (q : ℕ). key_at now (alone key) q ≡ Some key) (sym here) refl;
      gives = h.0.1;
      first = λ p k v lt at. absurd (omega arith);
    },
    h.0.2,
  ),
)

-- ---- right after a cookie was added under a ring

-- where the stored cookie stands by the current key for this one's value and no other
back : (StandsFor : List ℕ → Seen → List ℕ → Type 0) (ring : Ring) (now : DateTime) (stored c : Seen)
    (read : Option (Seen × ℕ)) → stored.cookie.name ≡ c.cookie.name → StandsFor ring.current stored c.cookie.value
    → ((v : List ℕ) → StandsFor ring.current stored v → v ≡ c.cookie.value) → ReadsUnder StandsFor now ring stored read
    → IsReadByCurrent c read
back StandsFor ring now stored c None named stands only none = absurd (none 0 ring.current c.cookie.value refl stands)
back StandsFor ring now stored c (Some r) named stands only reads =
    elim (cases_lt 0 r.1) [
      | inl later ↦ absurd (reads.1.first 0 ring.current c.cookie.value later refl stands)
      | inr at_0 ↦
          let here : r.1 ≡ 0 = omega arith in
          let at : key_at now ring 0 ≡ Some reads.1.key =
          subst (λ (q : ℕ). key_at now ring q ≡ Some reads.1.key) here reads.1.counts in
          let key : reads.1.key ≡ ring.current = cc at in (
            ap (λ (x : Seen). x.cookie.name) reads.2 ∙ named,
            ap (λ (x : Seen). x.cookie.value) reads.2
                ∙ only reads.0 (subst (λ (k : List ℕ). StandsFor k stored reads.0) key reads.1.gives),
            here,
          )
    ]

found : (StandsFor : List ℕ → Seen → List ℕ → Type 0) (ring : Ring) (now : DateTime) (jar : Jar) (stored : Seen)
    (name : List ℕ) (read : Option (Seen × ℕ)) → stored.cookie.name ≡ name
    → ReadsFoundUnder StandsFor now ring (given_after jar stored name) read → ReadsUnder StandsFor now ring stored read
found StandsFor ring now jar stored name read is h =
    subst (λ (o : Option Seen). ReadsFoundUnder StandsFor now ring o read) (given jar stored name is) h

pub signed_back_under : (ring : Ring) → CodesHave32 → SignedReadsBackUnder ring
signed_back_under ring sizes jar c now read h =
    let text : List ℕ = signing ring.current c.cookie.value in
    let stored : Seen = with_value c text in
    back IsSigned ring now stored c read refl refl
    (λ v is. sym (drop-signing sizes ring.current v text is)
    ∙ drop-signing sizes ring.current c.cookie.value text refl)
    (found IsSigned ring now jar stored c.cookie.name read refl h)

pub private_back_under : (ring : Ring) (c : Seen) → TagsHave16 → OpensOne → length (encryption_half ring.current) ≡ 32
    → IsUtf8 c.cookie.value → PrivateReadsBackUnder ring c
private_back_under ring c sizes one half utf8 jar nonce stored now read sealed h =
    let key : List ℕ = ring.current in
    let text : List ℕ = sealed.0 in
    let is : stored ≡ with_value c text = sealed.3 in
    let mine : IsSealing key c.cookie.name c.cookie.value text = (nonce, sealed.1, sealed.2) in
    let named : stored.cookie.name ≡ c.cookie.name = ap (λ (s : Seen). s.cookie.name) is in
    let valued : stored.cookie.value ≡ text = ap (λ (s : Seen). s.cookie.value) is in
    back IsSealed ring now stored c read named (
      utf8,
      subst (λ (n : List ℕ). IsSealing key n c.cookie.value stored.cookie.value) (sym named)
          (subst (IsSealing key c.cookie.name c.cookie.value) (sym valued) mine),
    )
    (λ v hv. one_value key c.cookie.name v c.cookie.value text sizes one half
    (subst (λ (n : List ℕ). IsSealing key n v text) named (subst (IsSealing key stored.cookie.name v) valued hv.1))
    mine)
    (found IsSealed ring now jar stored c.cookie.name read named h)
