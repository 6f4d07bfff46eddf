-- What is read of a cookie right after it was added.
use Rattle.std.proofs.Common.{◌≡◌, ℕ, List, length, take, Option, Some, None, Ok, ap, sym, subst, refl, ◌∙◌, rules}
use Rattle.std.specs.FinMap as finmap
use Rattle.std.specs.Str.{IsUtf8}
use Rattle.std.proofs.lemmas.Bool.{cond-true}
use Rattle.base64.specs.Engines.{standard}
use Rattle.base64.specs.GeneralPurpose.{IsConsistent, decode_of}
use Rattle.base64.proofs.EngineFacts.{decode_of-encode_of}
use Rattle.cookie_text.specs.Record.{Seen}
use Rattle.cookie_text.specs.Setting.{with_value}
use Rattle.seal.specs.Gcm as gcm
use Rattle.cookie.specs.Key.{encryption_half}
use Rattle.cookie.specs.Base64.{IsBase64}
use Rattle.cookie.specs.Signing.{signing}
use Rattle.cookie.specs.Sealing.{IsSealing, IsSealedAs}
use Rattle.cookie.specs.Jar.{Jar, Change, Added, overlaid}
use Rattle.cookie.specs.Reading.{Reads, ReadsFound, IsSigned, IsSealed}
use Rattle.cookie.specs.Laws.{IsReadAs, given_after, SignedReadsBack, PrivateReadsBack}
use Rattle.cookie.proofs.NameMaps.{get_insert, name_is}
use Rattle.cookie.proofs.SigningLemmas.{CodesHave32, drop-signing}
use Rattle.cookie.proofs.SealingLemmas.{TagsHave16, middle_of_sealed, MiddleIsSealedAs, middle, last}

pub given : (jar : Jar) (stored : Seen) (name : List ℕ) → stored.cookie.name ≡ name
    → given_after jar stored name ≡ Some stored
given jar stored name is =
    ap (λ (o : Option Change). overlaid o (finmap.get jar.originals name))
    (get_insert jar.changes stored.cookie.name (Added stored) name
    ∙ cond-true _ _ _ (name_is name stored.cookie.name (sym is)))

-- where the stored cookie stands for this one's value and no other
back : (StandsFor : List ℕ → Type 0) (stored c : Seen) (read : Option Seen) → stored.cookie.name ≡ c.cookie.name
    → StandsFor c.cookie.value
    → ((v : List ℕ) → StandsFor v → v ≡ c.cookie.value) → Reads StandsFor stored read → IsReadAs c read
back StandsFor stored c None named holds only reads = absurd (reads c.cookie.value holds)
back StandsFor stored c (Some d) named holds only reads =
    (ap (λ (x : Seen). x.cookie.name) reads.2 ∙ named, ap (λ (x : Seen). x.cookie.value) reads.2 ∙ only reads.0 reads.1)

found : (StandsFor : Seen → List ℕ → Type 0) (jar : Jar) (stored : Seen) (name : List ℕ) (read : Option Seen)
    → stored.cookie.name ≡ name
    → ReadsFound StandsFor (given_after jar stored name) read → Reads (StandsFor stored) stored read
found StandsFor jar stored name read is h = subst (λ (o : Option Seen). ReadsFound StandsFor o read)
    (given jar stored name is) h

pub signed_back : (key : List ℕ) → CodesHave32 → SignedReadsBack key
signed_back key sizes jar c read h =
    let stored : Seen = with_value c (signing key c.cookie.value) in
    back (IsSigned key stored) stored c read refl refl
    (λ v is. sym (drop-signing sizes key v (signing key c.cookie.value) is)
    ∙ drop-signing sizes key c.cookie.value (signing key c.cookie.value) refl)
    (found (IsSigned key) jar stored c.cookie.name read refl h)

-- ---- sealings of a text

one_base64 : (b d text : List ℕ) → IsBase64 b text → IsBase64 d text → b ≡ d
one_base64 b d text hb hd =
    let consistent : IsConsistent standard = search rules in
    let first : decode_of standard text ≡ Ok b = ap (decode_of standard) hb.1
    ∙ decode_of-encode_of standard b consistent hb.0 in
    let second : decode_of standard text ≡ Ok d = ap (decode_of standard) hd.1
    ∙ decode_of-encode_of standard d consistent hd.0 in
    let same = sym first ∙ second in
    cc same

-- that nothing else is opened
abbrev pub OpensOne : Type 0
OpensOne = (key nonce aad ciphertext tag x y : List ℕ) → length key ≡ 32 → gcm.Opens key nonce aad ciphertext tag x
    → gcm.Opens key nonce aad ciphertext tag y → x ≡ y

pub one_value : (key name v w text : List ℕ) → TagsHave16 → OpensOne → length (encryption_half key) ≡ 32
    → IsSealing key name v text → IsSealing key name w text → v ≡ w
one_value key name v w text sizes one half hv hw =
    let bytes : List ℕ = hv.2.0 in
    let same : hw.2.0 ≡ bytes = one_base64 hw.2.0 bytes text hw.2.2 hv.2.2 in
    let left : MiddleIsSealedAs key name v bytes = (middle_of_sealed sizes key name v hv.0 bytes half hv.1 hv.2.1).1 in
    let right : MiddleIsSealedAs key name w bytes =
    (middle_of_sealed sizes key name w hw.0 bytes half hw.1 (subst (IsSealedAs key name w hw.0) same hw.2.1)).1 in
    one (encryption_half key) (take 12 bytes) name (middle bytes) (last bytes) v w half left right

pub private_back : (key : List ℕ) (c : Seen) → TagsHave16 → OpensOne → length (encryption_half key) ≡ 32
    → IsUtf8 c.cookie.value → PrivateReadsBack key c
private_back key c sizes one half utf8 jar nonce stored read sealed h =
    let text : List ℕ = sealed.0 in
    let is : stored ≡ with_value c text = sealed.3 in
    let mine : IsSealing key c.cookie.name c.cookie.value text = (nonce, sealed.1, sealed.2) in
    let named : stored.cookie.name ≡ c.cookie.name = ap (λ (s : Seen). s.cookie.name) is in
    let valued : stored.cookie.value ≡ text = ap (λ (s : Seen). s.cookie.value) is in
    back (IsSealed key stored) stored c read named (
      utf8,
      subst (λ (n : List ℕ). IsSealing key n c.cookie.value stored.cookie.value) (sym named)
          (subst (IsSealing key c.cookie.name c.cookie.value) (sym valued) mine),
    )
    (λ v hv. one_value key c.cookie.name v c.cookie.value text sizes one half
    (subst (λ (n : List ℕ). IsSealing key n v text) named (subst (IsSealing key stored.cookie.name v) valued hv.1))
    mine)
    (found (IsSealed key) jar stored c.cookie.name read named h)
