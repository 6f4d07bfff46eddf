-- What a ring gives of a text that stands for an entry.
use Rattle.std.proofs.Common.{◌≡◌, ◌∙◌, ◌⊎◌, inl, inr, ℕ, ◌<◌, List, Option, Some, None, refl, ap, sym, subst}
use Rattle.std.proofs.Common.{arith}
use Rattle.std.proofs.Common.{◌-◌, length, length-drop, MatchOption}
use Rattle.std.specs.Prelude.{⊤}
use Rattle.std.proofs.lemmas.Bool.{cases_lt}
use Rattle.jiff.specs.Types.{DateTime}
use Rattle.cookie.specs.Key.{encryption_half}
use Rattle.cookie.specs.KeyRing.{Ring, GivesUnder, key_at}
use Rattle.cookie_run.specs.RingSite.{AreFormsApart, Form, Plain, Signed, Sealed, Until, IsGivenBefore, IsGivenOf}
use Rattle.cookie_run.specs.RingSite.{RingEntry, ShowsContent, StandsBy}
use Rattle.cookie_client.specs.declared.ending.EndingWay.TheVariants as ends
use Rattle.cookie_client.proofs.EndingBack.{IsOneSealed, forms_apart, given_current, names_signed, only}
use Rattle.cookie_client.proofs.EndingTexts.{CodesHave32, one_signed}

some_key : (k l : List ℕ) → Some k ≡ Some l → k ≡ l
some_key k l e = cc

-- the first key that counts and gives any is no later than one that gives this
given_found : (Gives : List ℕ → List ℕ → Type 0) (now : DateTime) (ring : Ring) (key content : List ℕ) (place : ℕ)
    (given : Option (List ℕ × ℕ)) → Gives key content → ((v : List ℕ) → Gives key v → v ≡ content)
    → key_at now ring place ≡ Some key → GivesUnder Gives now ring given
    → (given ≡ Some (content, place)) ⊎ IsGivenBefore place given
given_found Gives now ring key content place None gives one at none = absurd (none place key content at gives)
given_found Gives now ring key content place (Some g) gives one at it =
    elim (cases_lt place g.1) [
      | inl later ↦ absurd (it.first place key content later at gives)
      | inr near ↦ elim (cases_lt g.1 place) [
        | inl before ↦ inr before
        | inr far ↦
            let here : g.1 ≡ place = omega (arith, near, far) in
            let mine : key_at now ring place ≡ Some it.key =
            subst (λ (q : ℕ). key_at now ring q ≡ Some it.key) here it.counts in
            let same : g.0 ≡ content =
            one g.0 (subst (λ (k : List ℕ). Gives k g.0) (some_key it.key key (sym mine ∙ at)) it.gives) in
            inl (λ i. Some (same i, here i))
      ]
    ]

-- where no key of a place before it gives any, it is this one
given_alone : (Gives : List ℕ → List ℕ → Type 0) (now : DateTime) (ring : Ring) (content : List ℕ) (place : ℕ)
    (given : Option (List ℕ × ℕ)) → GivesUnder Gives now ring given
    → ((p : ℕ) (k v : List ℕ) → p < place → key_at now ring p ≡ Some k → ¬ (Gives k v))
    → (given ≡ Some (content, place)) ⊎ IsGivenBefore place given → given ≡ Some (content, place)
given_alone Gives now ring content place given it none (inl here) = here
given_alone Gives now ring content place None it none (inr before) = absurd before
given_alone Gives now ring content place (Some g) it none (inr before) =
    absurd (none g.1 it.key g.0 before it.counts it.gives)

module _ (sizes : CodesHave32) (one : IsOneSealed) where
  -- by one key a text stands for one content
  one_content : (form : Form) (name text key a b : List ℕ) → length key ≡ 64 → StandsBy form name text key a
      → StandsBy form name text key b → b ≡ a
  one_content Plain name text key a b long s u = sym u ∙ s
  one_content Signed name text key a b long s u = one_signed sizes key key b a (sym u ∙ s)
  one_content Sealed name text key a b long s u =
      let half : length (encryption_half key) ≡ 32 = length-drop 32 key ∙ ap (λ (n : ℕ). n - 32) long in
      one key name b a text half u.1 s.1
  one_content (Until way) name text key a b long s u = only sizes one way name text key b a u s

  -- a text that shows its content stands for it alone, whatever the keys
  shown : (form : Form) (name text key k a b : List ℕ) → ShowsContent form → StandsBy form name text key a
      → StandsBy form name text k b → b ≡ a
  shown Plain name text key k a b shows s u = sym u ∙ s
  shown Signed name text key k a b shows s u = one_signed sizes k key b a (sym u ∙ s)
  shown Sealed name text key k a b shows s u = absurd shows
  shown (Until ends.Signed) name text key k a b shows s u = (names_signed sizes name name text k key b a u s).0
  shown (Until ends.Sealed) name text key k a b shows s u = absurd shows

  -- the current key stands so too, where the form has no key
  by_current : (form : Form) (name text key current content : List ℕ) → (form ≡ Plain) ⊎ (current ≡ key)
      → StandsBy form name text key content → StandsBy form name text current content
  by_current form name text key current content (inl plain) s =
      subst (λ (f : Form). StandsBy f name text current content) (sym plain)
      (subst (λ (f : Form). StandsBy f name text key content) plain s)
  by_current form name text key current content (inr same) s =
      subst (λ (k : List ℕ). StandsBy form name text k content) (sym same) s

  only_current : (form : Form) (name text key current content v : List ℕ) → length key ≡ 64
      → (form ≡ Plain) ⊎ (current ≡ key) → StandsBy form name text key content → StandsBy form name text current v
      → v ≡ content
  only_current form name text key current content v long (inl plain) s u =
      let plainly : text ≡ content = subst (λ (f : Form). StandsBy f name text key content) plain s in
      let other : text ≡ v = subst (λ (f : Form). StandsBy f name text current v) plain u in
      sym other ∙ plainly
  only_current form name text key current content v long (inr same) s u =
      one_content form name text key content v long s (subst (λ (k : List ℕ). StandsBy form name text k v) same u)

  shown_given : (form : Form) (name text key content : List ℕ) (now : DateTime) (ring : Ring)
      (given : Option (List ℕ × ℕ)) → ShowsContent form → StandsBy form name text key content
      → GivesUnder (StandsBy form name text) now ring given → MatchOption given ⊤ (λ g. g.0 ≡ content)
  shown_given form name text key content now ring None shows s none = tt
  shown_given form name text key content now ring (Some g) shows s it =
      shown form name text key it.key content g.0 shows s it.gives

  -- no text is of forms that are apart
  none_of_both : (mine other : Form) (name text key k a b : List ℕ) → AreFormsApart mine other
      → StandsBy mine name text key a → ¬ (StandsBy other name text k b)
  none_of_both Plain other name text key k a b apart s u = absurd apart
  none_of_both Signed (Until way) name text key k a b apart s u =
      (forms_apart sizes way name text k b u).0 key a s
  none_of_both Signed Plain name text key k a b apart s u = absurd apart
  none_of_both Signed Signed name text key k a b apart s u = absurd apart
  none_of_both Signed Sealed name text key k a b apart s u = absurd apart
  none_of_both Sealed (Until way) name text key k a b apart s u =
      (forms_apart sizes way name text k b u).1 key name a s.1
  none_of_both Sealed Plain name text key k a b apart s u = absurd apart
  none_of_both Sealed Signed name text key k a b apart s u = absurd apart
  none_of_both Sealed Sealed name text key k a b apart s u = absurd apart
  none_of_both (Until way) Signed name text key k a b apart s u =
      (forms_apart sizes way name text key a s).0 k b u
  none_of_both (Until way) Sealed name text key k a b apart s u =
      (forms_apart sizes way name text key a s).1 k name b u.1
  none_of_both (Until way) Plain name text key k a b apart s u = absurd apart
  none_of_both (Until way) (Until other) name text key k a b apart s u = absurd apart

  none_given : (mine form : Form) (name text key content : List ℕ) (now : DateTime) (ring : Ring)
      (given : Option (List ℕ × ℕ)) → AreFormsApart mine form → StandsBy mine name text key content
      → GivesUnder (StandsBy form name text) now ring given → given ≡ None
  none_given mine form name text key content now ring None apart s none = refl
  none_given mine form name text key content now ring (Some g) apart s it =
      absurd (none_of_both mine form name text key it.key content g.0 apart s it.gives)

  pub given_of : (now : DateTime) (ring : Ring) (form : Form) (name : List ℕ) (entry : RingEntry) (text : List ℕ)
      (given : Option (List ℕ × ℕ)) → length entry.key ≡ 64 → StandsBy entry.form name text entry.key entry.content
      → GivesUnder (StandsBy form name text) now ring given → IsGivenOf now ring form name entry given
  given_of now ring form name entry text given long stands gives =
      let mine : entry.form ≡ form → StandsBy form name text entry.key entry.content =
      λ same. subst (λ (f : Form). StandsBy f name text entry.key entry.content) same stands in
      let found : entry.form ≡ form → (place : ℕ) → key_at now ring place ≡ Some entry.key
      → (given ≡ Some (entry.content, place)) ⊎ IsGivenBefore place given =
      λ same place at.
      given_found (StandsBy form name text) now ring entry.key entry.content place given (mine same)
      (λ v u. one_content form name text entry.key entry.content v long (mine same) u) at gives in
      record {
        text = text;
        stands = stands;
        only = gives;
        current = λ same by.
            given_current (StandsBy form name text) now ring entry.content given
            (by_current form name text entry.key ring.current entry.content by (mine same))
            (λ v u. only_current form name text entry.key ring.current entry.content v long by (mine same) u) gives;
        found = found;
        alone = λ same place at none.
            given_alone (StandsBy form name text) now ring entry.content place given gives none (found same place at);
        shown = λ same shows. shown_given form name text entry.key entry.content now ring given shows (mine same) gives;
        apart = λ apart. none_given entry.form form name text entry.key entry.content now ring given apart stands gives;
      }
