-- Texts that stand for a moment and a value: their parts, and what is read of them.
use Rattle.std.proofs.Common.{◌≡◌, ◌∙◌, ℕ, zero, suc, ◌+◌, ◌-◌, ◌*◌, ◌/◌, ◌%◌, ◌<◌, ◌≤◌, ◌<ℤ◌, ◌≤ℤ◌}
use Rattle.std.proofs.Common.{true, false, List, [], ◌∷◌, ◌++◌, length, take, drop, ℤ}
use Rattle.std.proofs.Common.{ap, sym, subst, arith, replicate, length-append}
use Rattle.std.specs.Prelude.{slice_index}
use Rattle.std.specs.Cmp.{int_ranks}
use Rattle.std.specs.Ordering.{MatchOrdering, int_cmp, is_lt}
use Rattle.std.specs.Str.{IsUtf8, IsCharBoundary}
use Rattle.std.specs.declared.cmp.Ordering.{Ordering}
use Rattle.std.specs.declared.cmp.Ordering.TheVariants.{Less, Equal, Greater}
use Rattle.jiff_core.proofs.SignedLemmas.{signed_arith}
use Rattle.std.proofs.lemmas.List.{length-replicate, take-append-drop, take_at, drop_at}
use Rattle.std.proofs.lemmas.Str.{IsUtf8-take, IsCharBoundary-from_take}
use Rattle.base64.specs.Engines.{standard}
use Rattle.base64.specs.Rfc4648.{encode_symbols}
use Rattle.base64.proofs.RoundTrip.{length-encode_symbols}
use Rattle.seal.specs.Hmac.{hmac}
use Rattle.cookie.specs.Key.{signing_half}
use Rattle.cookie.specs.Base64.{base64}
use Rattle.cookie.specs.Signing.{signing}
use Rattle.saved_text.specs.DateReading.{IsDateOf, AreOfOneMoment}
use Rattle.cookie_client.specs.Ending.{IsDated}

-- ---- date and value

-- the front of twenty bytes
pub stamp_of : (dated value : List ℕ) (end : ℤ) (d : IsDated dated end value) → take 20 dated ≡ d.stamp
stamp_of dated value end d = ap (take 20) d.parts ∙ take_at d.stamp value 20 d.size

pub value_of : (dated value : List ℕ) (end : ℤ) (d : IsDated dated end value) → drop 20 dated ≡ value
value_of dated value end d = ap (drop 20) d.parts ∙ drop_at d.stamp value 20 d.size

-- there it can be cut
pub boundary_of : (dated value : List ℕ) (end : ℤ) → IsUtf8 dated → IsDated dated end value
    → (20 ≤ length dated) × IsCharBoundary dated 20
boundary_of dated value end utf8 d =
    let size : length dated ≡ 20 + length value =
    ap length d.parts ∙ length-append d.stamp value ∙ (λ i. d.size i + length value) in
    let long : 20 ≤ length dated = omega arith in
    (long, IsCharBoundary-from_take dated 20 utf8 long (subst IsUtf8 (sym (stamp_of dated value end d)) d.is_text))

pub date_at_front : (dated value : List ℕ) (end : ℤ) → IsDated dated end value → IsDateOf (take 20 dated) end
date_at_front dated value end d = subst (λ (t : List ℕ). IsDateOf t end) (sym (stamp_of dated value end d)) d.date

pub dated_of : (dated stamp value : List ℕ) (end : ℤ) → IsUtf8 dated → IsCharBoundary dated 20 → stamp ≡ take 20 dated
    → value ≡ drop 20 dated → length stamp ≡ 20 → IsDateOf stamp end → IsDated dated end value
dated_of dated stamp value end utf8 cut front back size date = record {
  stamp = stamp;
  is_text = subst IsUtf8 (sym front) (IsUtf8-take dated 20 utf8 cut);
  size = size;
  date = date;
  parts = sym (take-append-drop 20 dated) ∙ (λ i. sym front i ++ sym back i);
}

-- of one moment and one value
pub one_pair : AreOfOneMoment → (dated v w : List ℕ) (end last : ℤ) → IsDated dated end v → IsDated dated last w
    → (end ≡ last) × (v ≡ w)
one_pair one dated v w end last d e =
    let same : d.stamp ≡ e.stamp = sym (stamp_of dated v end d) ∙ stamp_of dated w last e in (
      one e.stamp end last (subst (λ (t : List ℕ). IsDateOf t end) same d.date) e.date,
      sym (value_of dated v end d) ∙ value_of dated w last e,
    )

-- ---- moments

ordered : (o : Ordering) (now end : ℤ) → MatchOrdering o (now <ℤ end) (now ≡ end) (end <ℤ now)
    → (is_lt o ≡ true → now <ℤ end) × (is_lt o ≡ false → end ≤ℤ now)
ordered Less now end m = ((λ e. m), λ e. absurd (cc))
ordered Equal now end m = ((λ e. absurd (cc)), λ e. omega (arith, signed_arith, m))
ordered Greater now end m = ((λ e. absurd (cc)), λ e. omega (arith, signed_arith, m))

pub before_end : (now end : ℤ) → is_lt (int_cmp now end) ≡ true → now <ℤ end
before_end now end = (ordered (int_cmp now end) now end (int_ranks now end)).0

-- at or past the end of a date, it isn't before that
pub at_end : (now end last : ℤ) → is_lt (int_cmp now last) ≡ false → end ≡ last → ¬ (now <ℤ end)
at_end now end last is same lt =
    let past : last ≤ℤ now = (ordered (int_cmp now last) now last (int_ranks now last)).1 is in
    let lower : now <ℤ last = subst (λ (x : ℤ). now <ℤ x) same lt in
    omega (arith, signed_arith)

-- ---- signings

-- that each code has 32 bytes
abbrev pub CodesHave32 : Type 0
CodesHave32 = (key text : List ℕ) → length (hmac key text) ≡ 32

-- of 32 bytes there are 43 symbols and one `=`
length-base64 : (m : List ℕ) → length m ≡ 32 → length (base64 m) ≡ 44
length-base64 m long =
    let symbols : List ℕ = encode_symbols standard.encode_table m in
    let size : length symbols ≡ 43 =
    length-encode_symbols standard.encode_table m ∙ ap (λ (n : ℕ). (4 * n + 2) / 3) long in
    let padding : length (replicate ((3 - length m % 3) % 3) 61) ≡ 1 =
    length-replicate ((3 - length m % 3) % 3) 61 ∙ ap (λ (n : ℕ). (3 - n % 3) % 3) long in
    length-append symbols (replicate ((3 - length m % 3) % 3) 61) ∙ (λ i. size i + padding i)

-- a text is the signing of one value, whatever the keys
pub one_signed : CodesHave32 → (key other v w : List ℕ) → signing key v ≡ signing other w → v ≡ w
one_signed sizes key other v w same =
    let mine = drop_at (base64 (hmac (signing_half key) v)) v 44
    (length-base64 (hmac (signing_half key) v) (sizes (signing_half key) v)) in
    let theirs = drop_at (base64 (hmac (signing_half other) w)) w 44
    (length-base64 (hmac (signing_half other) w) (sizes (signing_half other) w)) in
    sym mine ∙ ap (drop 44) same ∙ theirs

-- ---- how the forms begin

-- every byte of a list is below a bound
abbrev pub below : ℕ → List ℕ → Type 0
below n [] = Unit {0}
below n (x ∷ xs) = (x < n) × below n xs

pub at_below : (xs : List ℕ) (n i : ℕ) → 0 < n → below n xs → slice_index xs i < n
at_below [] n i some h = some
at_below (x ∷ xs) n zero some h = h.0
at_below (x ∷ xs) n (suc i) some h = at_below xs n i some h.1
