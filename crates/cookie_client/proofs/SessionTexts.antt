-- The names and values of a session's cookies are texts, each under its stored name.
use Rattle.std.proofs.Common.{◌≡◌, ◌≢◌, ℕ, ◌<◌, Bool, true, false, cond, ltb, List, All, [], ◌∷◌, length, sym, refl, ap}
use Rattle.std.proofs.Common.{◌∙◌, subst, ⊎_elim, arith, Option, Some, None, Result}
use Rattle.std.specs.Option.{option_or}
use Rattle.std.specs.Prelude.{IfSome}
use Rattle.std.specs.List.{AllByRecursion}
use Rattle.std.specs.Str.{bytes_eq, IsUtf8}
use Rattle.std.specs.FinMap as finmap
use Rattle.std.proofs.lemmas.Bool.{cond_both, both_ways, ltb-true}
use Rattle.std.proofs.lemmas.List.Elements.{All-nil, All-append, All-from_recursion}
use Rattle.std.proofs.lemmas.Str.{IsUtf8-append, IsUtf8-from_ascii}
use Rattle.std.proofs.lemmas.Str.Ascii.{IsAscii-from_all}
use Rattle.std.specs.Cmp.{first_so, second_so}
use lib.Utf8.{scalar, scalars, encode, encodes, scalar_cases}
use Rattle.percent_encoding.proofs.PercentLemmas.{IsByte}
use Rattle.jiff_core.specs.Timestamp.{IsDurationNanos}
use Rattle.cookie_text.specs.declared.error.ParseError.{ParseError}
use Rattle.cookie_text.specs.Normal.{IsReadable}
use Rattle.cookie_text.specs.Printing.{encoded}
use Rattle.cookie_text.specs.Reading.{ReadsPlain}
use Rattle.cookie_text.specs.ReadingBack.{ReadsBack}
use Rattle.cookie_text.specs.Record.{Record, Seen}
use Rattle.cookie.specs.Jar.{Jar, overlaid, view}
use Rattle.cookie.specs.Prefix.{host_text, secure_text}
use Rattle.cookie.specs.Sealing.{IsSealing}
use Rattle.cookie.specs.Signing.{signing}
use Rattle.cookie_client.specs.Jar.{IsKeptAs, last_in}
use Rattle.cookie_client.specs.declared.way.Way.{Way}
use Rattle.cookie_client.specs.declared.way.Way.TheVariants as ways
use Rattle.cookie_client.specs.Ways.{Plain, Signed, Sealed, stored_name}
use Rattle.cookie_client.proofs.Texts.{same_text, text_is}
use Rattle.cookie_client.proofs.Sessions.{none_at}

-- what a line reads as, as the crate of cookies promises it
abbrev pub ReadingBack : Type 0
ReadingBack = (r : Record) → IsReadable r → IfSome r.max_age IsDurationNanos → (o : Result Seen ParseError)
    → ReadsPlain (encoded r) o → ReadsBack r o

-- ---- the session opens

pub or_none : {A : Type 0} (o : Option A) → option_or o None ≡ o
or_none None = refl
or_none (Some v) = refl

or_named : (o p : Option Record) (q : List ℕ) → IfSome o (λ c. c.name ≡ q) → IfSome p (λ c. c.name ≡ q)
    → IfSome (option_or o p) (λ c. c.name ≡ q)
or_named None p q ho hp = hp
or_named (Some c) p q ho hp = ho

cond_named : (b : Bool) (c : Record) (q : List ℕ) → (b ≡ true → c.name ≡ q)
    → IfSome (cond b (Some c) None) (λ d. d.name ≡ q)
cond_named true c q h = h refl
cond_named false c q h = tt

pub last_named : (cs : List Record) (q : List ℕ) → IfSome (last_in cs q) (λ c. c.name ≡ q)
last_named [] q = tt
last_named (c ∷ cs) q = or_named (last_in cs q) _ q (last_named cs q)
    (cond_named (bytes_eq q c.name) c q (λ e. sym (same_text q c.name e)))

-- nothing was changed yet
pub view_original : (jar : Jar) (q : List ℕ) → jar.changes ≡ finmap.empty → view jar q ≡ finmap.get jar.originals q
view_original jar q e = ap (λ o. overlaid o (finmap.get jar.originals q)) (ap (λ m. finmap.get m q) e ∙ none_at q)

-- ---- a set

pub kept_named : (May : List ℕ → Type 0) (key : List ℕ) (way : Way) (s kept : Seen) → IsKeptAs May key way s kept
    → kept.cookie.name ≡ stored_name way s.cookie.name
kept_named May key ways.Plain s kept k = ap (λ (x : Seen). x.cookie.name) k
kept_named May key ways.Host s kept k = ap (λ (x : Seen). x.cookie.name) k
kept_named May key ways.Secure s kept k = ap (λ (x : Seen). x.cookie.name) k
kept_named May key ways.Signed s kept k = ap (λ (x : Seen). x.cookie.name) k
kept_named May key ways.Sealed s kept k = ap (λ (x : Seen). x.cookie.name) k.2.3

-- ---- a text is bytes

encode_bytes : (c : ℕ) → scalar c ≡ true → AllByRecursion IsByte (encode c)
unfolding encode
encode_bytes c valid =
    let top : c < 1114112 = ⊎_elim (λ h. omega arith) (λ h. h.1) (scalar_cases c valid) in
    cond_both (ltb c 128) _ _ (AllByRecursion IsByte) (λ e. (omega (arith, ltb-true c 128 e), tt)) (λ e.
    cond_both (ltb c 2048) _ _ (AllByRecursion IsByte) (λ e. (omega (arith, ltb-true c 2048 e), (omega arith, tt)))
    (λ e.
    cond_both (ltb c 65536) _ _ (AllByRecursion IsByte) (λ e.
    (omega (arith, ltb-true c 65536 e), (omega arith, (omega arith, tt)))) (λ e.
    (omega arith, (omega arith, (omega arith, (omega arith, tt)))))))

encodes_bytes : (cs : List ℕ) → scalars cs ≡ true → All IsByte (encodes cs)
encodes_bytes [] h = All-nil IsByte
encodes_bytes (c ∷ cs) h = All-append IsByte (encode c) (encodes cs)
    (All-from_recursion IsByte (encode c) (encode_bytes c (first_so (scalar c) (scalars cs) h)))
    (encodes_bytes cs (second_so (scalar c) (scalars cs) h))

pub utf8_bytes : (bs : List ℕ) → IsUtf8 bs → All IsByte bs
utf8_bytes bs h = subst (All IsByte) h.1.1 (encodes_bytes h.0 h.1.0)

-- ---- what is set is a text

pub not_nil : (n : List ℕ) → 0 < length n → n ≢ []
not_nil [] h e = omega (arith, h)
not_nil (b ∷ bs) h e = cc

-- a prefix is a text
host_utf8 : IsUtf8 host_text
host_utf8 = IsUtf8-from_ascii host_text (IsAscii-from_all host_text
    (All-from_recursion (λ b. b < 128) host_text (
      omega arith,
      (omega arith, (omega arith, (omega arith, (omega arith, (omega arith, (omega arith, tt)))))),
    )))

secure_utf8 : IsUtf8 secure_text
secure_utf8 = IsUtf8-from_ascii secure_text (IsAscii-from_all secure_text
    (All-from_recursion (λ b. b < 128) secure_text (
      omega arith,
      (
        omega arith,
        (
          omega arith,
          (
            omega arith,
            (
              omega arith,
              (
                omega arith,
                (omega arith, (omega arith, (omega arith, tt))),
              ),
            ),
          ),
        ),
      ),
    )))

pub named_text : (way : Way) (name : List ℕ) → IsUtf8 name → IsUtf8 (stored_name way name)
named_text ways.Plain name h = h
named_text ways.Host name h = IsUtf8-append host_text name host_utf8 h
named_text ways.Secure name h = IsUtf8-append secure_text name secure_utf8 h
named_text ways.Signed name h = h
named_text ways.Sealed name h = h

pub kept_text : (May : List ℕ → Type 0) (key : List ℕ) (way : Way) (s kept : Seen)
    → ((k value : List ℕ) → IsUtf8 value → IsUtf8 (signing k value))
    → ((k name value text : List ℕ) → IsSealing k name value text → IsUtf8 text)
    → IsUtf8 s.cookie.value → IsKeptAs May key way s kept → IsUtf8 kept.cookie.value
kept_text May key ways.Plain s kept signed sealed h k = subst (λ (x : Seen). IsUtf8 x.cookie.value) (sym k) h
kept_text May key ways.Host s kept signed sealed h k = subst (λ (x : Seen). IsUtf8 x.cookie.value) (sym k) h
kept_text May key ways.Secure s kept signed sealed h k = subst (λ (x : Seen). IsUtf8 x.cookie.value) (sym k) h
kept_text May key ways.Signed s kept signed sealed h k =
    subst (λ (x : Seen). IsUtf8 x.cookie.value) (sym k) (signed key s.cookie.value h)
kept_text May key ways.Sealed s kept signed sealed h k =
    subst (λ (x : Seen). IsUtf8 x.cookie.value) (sym k.2.3) (sealed key s.cookie.name s.cookie.value k.2.0
    (k.0, k.2.1, k.2.2))

-- ---- the host of a URL, as a test and as an equation

pub is_text : List ℕ → Option (List ℕ) → Bool
is_text text None = false
is_text text (Some other) = bytes_eq other text

pub host_is : (host : List ℕ) (o : Option (List ℕ)) → is_text host o ≡ true → o ≡ Some host
unfolding is_text
host_is host None e = absurd (cc)
host_is host (Some other) e = ap Some (same_text other host e)

tests_host : (host : List ℕ) (o : Option (List ℕ)) → o ≡ Some host → is_text host o ≡ true
unfolding is_text
tests_host host o e = ap (is_text host) e ∙ text_is host host refl

pub other_host : (host : List ℕ) (o : Option (List ℕ)) → is_text host o ≡ false → o ≢ Some host
unfolding is_text
other_host host o e same = both_ways _ e (tests_host host o same)
