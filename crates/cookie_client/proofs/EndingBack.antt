-- What is read of a value that was kept until a moment, and that no text is of two forms.
use Rattle.std.proofs.Common.{◌≡◌, ◌≢◌, ◌∙◌, inl, inr, ℕ, ◌+◌, ◌/◌, ◌<◌, ◌≤◌, List, []}
use Rattle.std.proofs.Common.{◌∷◌, ◌++◌, length, Option, Some, None, refl, ap, sym, subst, arith}
use Rattle.std.proofs.Common.{◌-◌, MatchOption, append-nil, length-append, length-drop, rules}
use Rattle.std.specs.Prelude.{slice_index}
use Rattle.std.specs.Str.{IsUtf8}
use Rattle.std.proofs.lemmas.Bool.{cases_lt}
use Rattle.std.proofs.lemmas.List.{length-take-le}
use Rattle.base64.specs.Engines.{standard}
use Rattle.base64.specs.Rfc4648.{encode_symbols}
use Rattle.jiff.specs.Types.{DateTime}
use Rattle.jiff.specs.Words.{civil_nanos}
use Rattle.seal.specs.Hmac.{hmac}
use Rattle.seal.specs.Hkdf.{expansion, t, t_through}
use Rattle.cookie.specs.Base64.{base64}
use Rattle.cookie.specs.Key.{derived, encryption_half, info, signing_half}
use Rattle.cookie.specs.KeyRing.{Ring, GivesUnder, key_at}
use Rattle.cookie.specs.Sealing.{IsSealing}
use Rattle.cookie.specs.Signing.{signing}
use Rattle.saved_text.specs.DateReading.{AreOfOneMoment}
use Rattle.saved_text.specs.PrintedDates.{PrintedDatesAreRead}
use Rattle.cookie_client.specs.Ending.{IsKeptUntil, IsReadBefore, StandsFor, dated_text, ending_key}
use Rattle.cookie_client.specs.Ending.{label, mark}
use Rattle.cookie_client.specs.EndingLaws.{EndsReadBack, FormsAreApart, NamesAreSigned, SignedEndsReadBack}
use Rattle.cookie_client.specs.declared.ending.EndingWay.{EndingWay}
use Rattle.cookie_client.specs.declared.ending.EndingWay.TheVariants.{Signed, Sealed}
use Rattle.cookie_client.proofs.EndingDates.{dated_is, read_till, utf8_dated}
use Rattle.cookie_client.proofs.EndingTexts.{CodesHave32, at_below, below, one_signed}

-- ---- a derived key

length-derived : CodesHave32 → (prk : List ℕ) → length (derived prk) ≡ 64
unfolding expansion t_through t
length-derived sizes prk =
    let first : length (t prk info 1) ≡ 32 = sizes prk _ in
    let second : length (t prk info 2) ≡ 32 = sizes prk _ in
    let all : length (t prk info 1 ++ t prk info 2) ≡ 64 =
    length-append (t prk info 1) (t prk info 2) ∙ (λ i. first i + second i) in
    length-take-le 64 (t prk info 1 ++ t prk info 2) (omega arith)

pub half_of_ending : CodesHave32 → (key name : List ℕ) → length (encryption_half (ending_key key name)) ≡ 32
half_of_ending sizes key name =
    let whole = length-derived sizes (label ++ (key ++ name)) in
    length-drop 32 (ending_key key name) ∙ ap (λ (n : ℕ). n - 32) whole

-- ---- what is given

abbrev pub IsOneSealed : Type 0
IsOneSealed = (key name v w text : List ℕ) → length (encryption_half key) ≡ 32 → IsSealing key name v text
    → IsSealing key name w text → v ≡ w

-- under the current key a text stands for one dated text at most
pub only : CodesHave32 → IsOneSealed → (way : EndingWay) (name text key a b : List ℕ) → StandsFor way name text key a
    → StandsFor way name text key b → a ≡ b
only sizes one Signed name text key a b s u =
    let same : signing (ending_key key name) a ≡ signing (ending_key key name) b = cc (s, u) in
    one_signed sizes (ending_key key name) (ending_key key name) a b same
only sizes one Sealed name text key a b s u =
    let same : u.0 ≡ s.0 = cc (s.1, u.1) in
    one (ending_key key name) name a b s.0 (half_of_ending sizes key name) s.3
    (subst (λ (r : List ℕ). IsSealing (ending_key key name) name b r) same u.3)

-- what is kept stands so
pub kept_stands : (way : EndingWay) (name value text key : List ℕ) (until : DateTime) → IsUtf8 (dated_text until value)
    → IsKeptUntil (λ nonce. Unit {0}) way key name value until text
    → StandsFor way name text key (dated_text until value)
kept_stands Signed name value text key until utf8 is = is
kept_stands Sealed name value text key until utf8 is =
    (is.3.0, is.3.1, utf8, (is.0, is.1, is.3.2))

pub given_current : (Gives : List ℕ → List ℕ → Type 0) (now : DateTime) (ring : Ring) (dated : List ℕ)
    (given : Option (List ℕ × ℕ)) → Gives ring.current dated → ((v : List ℕ) → Gives ring.current v → v ≡ dated)
    → GivesUnder Gives now ring given → given ≡ Some (dated, 0)
given_current Gives now ring dated None gives one none = absurd (none 0 ring.current dated refl gives)
given_current Gives now ring dated (Some g) gives one it =
    elim (cases_lt 0 g.1) [
      | inl later ↦ absurd (it.first 0 ring.current dated later refl gives)
      | inr at_0 ↦
          let here : g.1 ≡ 0 = omega arith in
          let at : key_at now ring 0 ≡ Some it.key =
          subst (λ (q : ℕ). key_at now ring q ≡ Some it.key) here it.counts in
          let key : it.key ≡ ring.current = cc at in
          let same : g.0 ≡ dated = one g.0 (subst (λ (k : List ℕ). Gives k g.0) key it.gives) in
          (λ i. Some (same i, here i))
    ]

pub ends_read_back : CodesHave32 → IsOneSealed → PrintedDatesAreRead → AreOfOneMoment → (ring : Ring)
    → EndsReadBack ring
ends_read_back sizes one printed moment ring way name value text until now read from utf8 kept r =
    let dated : List ℕ = dated_text until value in
    let stands = kept_stands way name value text ring.current until (utf8_dated until value utf8) kept in
    let given = given_current (StandsFor way name text) now ring dated r.0 stands
    (λ v s. only sizes one way name text ring.current v dated s stands) r.1 in
    let reads : IsReadBefore (civil_nanos now) dated 0 read =
    subst (λ (g : Option (List ℕ × ℕ)). MatchOption g (read ≡ None) (λ x.
    IsReadBefore (civil_nanos now) x.0 x.1 read)) given r.2 in
    read_till moment dated value (civil_nanos now) until 0 read (dated_is printed until value from) reads

-- ---- signed under any key

given_signed : CodesHave32 → (name dated key : List ℕ) (place : ℕ) (now : DateTime) (ring : Ring)
    (given : Option (List ℕ × ℕ)) → key_at now ring place ≡ Some key
    → GivesUnder (StandsFor Signed name (mark ∷ signing (ending_key key name) dated)) now ring given
    → (p : ℕ) × (p ≤ place) × (given ≡ Some (dated, p))
given_signed sizes name dated key place now ring None at none = absurd (none place key dated at refl)
given_signed sizes name dated key place now ring (Some g) at it =
    let is : signing (ending_key it.key name) g.0 ≡ signing (ending_key key name) dated =
    let e = it.gives in cc e in
    let same : g.0 ≡ dated = one_signed sizes (ending_key it.key name) (ending_key key name) g.0 dated is in
    elim (cases_lt place g.1) [
      | inl later ↦ absurd (it.first place key dated later at refl)
      | inr near ↦ (g.1, near, (λ i. Some (same i, g.1)))
    ]

pub signed_read_back : CodesHave32 → PrintedDatesAreRead → AreOfOneMoment → (ring : Ring) → SignedEndsReadBack ring
signed_read_back sizes printed moment ring name value key place until now read from at r =
    let dated : List ℕ = dated_text until value in
    let g = given_signed sizes name dated key place now ring r.0 at r.1 in
    let reads : IsReadBefore (civil_nanos now) dated g.0 read =
    subst (λ (o : Option (List ℕ × ℕ)). MatchOption o (read ≡ None) (λ x.
    IsReadBefore (civil_nanos now) x.0 x.1 read)) g.2 r.2 in
    (g.0, g.1, read_till moment dated value (civil_nanos now) until g.0 read (dated_is printed until value from) reads)

-- ---- forms

table_low : below 123 standard.encode_table
table_low = search rules

-- what base64 begins with is no mark
no_mark : (m v rest : List ℕ) → 0 < length m → base64 m ++ v ≢ mark ∷ rest
unfolding encode_symbols
no_mark [] v rest some e = omega (arith, some)
no_mark (a ∷ []) v rest some e =
    let first : slice_index standard.encode_table (a / 4) ≡ 126 = cc e in
    omega (arith, at_below standard.encode_table 123 (a / 4) (omega arith) table_low)
no_mark (a ∷ b ∷ []) v rest some e =
    let first : slice_index standard.encode_table (a / 4) ≡ 126 = cc e in
    omega (arith, at_below standard.encode_table 123 (a / 4) (omega arith) table_low)
no_mark (a ∷ b ∷ d ∷ r) v rest some e =
    let first : slice_index standard.encode_table (a / 4) ≡ 126 = cc e in
    omega (arith, at_below standard.encode_table 123 (a / 4) (omega arith) table_low)

no_signing : CodesHave32 → (key value rest : List ℕ) → signing key value ≢ mark ∷ rest
no_signing sizes key value rest =
    no_mark (hmac (signing_half key) value) value rest (omega (arith, sizes (signing_half key) value))

no_sealing : (key name value rest : List ℕ) → ¬ (IsSealing key name value (mark ∷ rest))
no_sealing key name value rest s =
    let bytes : List ℕ = s.2.0 in
    let size : length bytes ≡ length s.0 + length (s.2.1.ciphertext ++ s.2.1.tag) =
    ap length s.2.1.bytes_are ∙ length-append s.0 (s.2.1.ciphertext ++ s.2.1.tag) in
    no_mark bytes [] rest (omega (arith, s.1)) (append-nil (base64 bytes) ∙ sym s.2.2.1)

pub forms_apart : CodesHave32 → FormsAreApart
forms_apart sizes Signed name text key dated s = (
  λ k v e. no_signing sizes k v (signing (ending_key key name) dated) (sym e ∙ s),
  λ k n v z. no_sealing k n v (signing (ending_key key name) dated) (subst (IsSealing k n v) s z),
)
forms_apart sizes Sealed name text key dated s = (
  λ k v e. no_signing sizes k v s.0 (sym e ∙ s.1),
  λ k n v z. no_sealing k n v s.0 (subst (IsSealing k n v) s.1 z),
)

pub names_signed : CodesHave32 → NamesAreSigned
names_signed sizes name other text key k a b s u =
    let is : signing (ending_key key name) a ≡ signing (ending_key k other) b = cc (s, u) in
    let same : a ≡ b = one_signed sizes (ending_key key name) (ending_key k other) a b is in
    (same, is ∙ ap (signing (ending_key k other)) (sym same))
