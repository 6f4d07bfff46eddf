-- Texts on which no terminal acts, and their parts.
use Rattle.std.proofs.Common.{◌≡◌, ℕ, ◌<◌, ◌&&◌, ◌||◌, ◌==◌, not, append-nil, Bool, true, false, List}
use Rattle.std.proofs.Common.{[], ◌∷◌, ◌++◌, Result, Ok, Err, OnOk, OnErr, refl, ap, subst, sym, ◌∙◌, arith}
use Rattle.std.proofs.Common.{if◌then◌else◌}
use Rattle.std.specs.List.{All, list_all}
use Rattle.std.specs.Str.{IsAscii, IsUtf8, chars}
use Rattle.std.proofs.lemmas.Bool.Decides.{nat_tests}
use Rattle.std.proofs.lemmas.List.Elements.{All-weaker}
use Rattle.std.specs.Char.{IsScalar}
use Rattle.std.specs.Prelude.{encode_utf8}
use Rattle.std.proofs.lemmas.List.Folds.{list_all-append}
use Rattle.std.proofs.lemmas.List.Sums.{AllPass-from_list_all, list_all-from_AllPass}
use Rattle.std.proofs.lemmas.Str.{chars-IsAscii, chars-append, chars-encodes}
use Rattle.std.proofs.lemmas.Str.Ascii.{IsAscii-from_all}
use Rattle.cookie_jar.specs.Terminal.{ShowsNoControl, is_acted_on, is_let, is_plain}

abbrev Plain : ℕ → Type 0
Plain b = is_plain b ≡ true

plain_below : (b : ℕ) → Plain b → b < 128
plain_below b h = grind (arith, nat_tests)

plain_let : (b : ℕ) → Plain b → is_let b ≡ true
plain_let b h = grind (arith, nat_tests)

pub shows_plain : (text : List ℕ) → All Plain text → ShowsNoControl text
shows_plain text h =
    let ascii : IsAscii text = IsAscii-from_all text (All-weaker Plain (λ b. b < 128) plain_below text h) in
    ap (list_all is_let) (chars-IsAscii text ascii)
    ∙ list_all-from_AllPass is_let text (All-weaker Plain (λ b. is_let b ≡ true) plain_let text h)

pub shows_words : (text : List ℕ) → list_all is_plain text ≡ true → ShowsNoControl text
shows_words text h = shows_plain text (AllPass-from_list_all is_plain text h)

-- a text and one behind it
pub shows_more : (old more : List ℕ) → IsUtf8 old → ShowsNoControl old → ShowsNoControl more
    → ShowsNoControl (old ++ more)
shows_more old more utf8 before behind =
    ap (list_all is_let) (chars-append old more utf8)
    ∙ list_all-append is_let (chars old) (chars more)
    ∙ ap (λ b. b && list_all is_let (chars more)) before
    ∙ behind

pub shows_if : (ok : Bool) (old more new : List ℕ) → new ≡ (if ok then old ++ more else old) → IsUtf8 old
    → ShowsNoControl old → ShowsNoControl more → ShowsNoControl new
shows_if true old more new is utf8 before behind =
    subst ShowsNoControl (sym is) (shows_more old more utf8 before behind)
shows_if false old more new is utf8 before behind = subst ShowsNoControl (sym is) before

pub shows_result : {A E : Type 0} (r : Result A E) (old more new : List ℕ) → OnOk r (new ≡ old ++ more)
    → OnErr r (new ≡ old) → IsUtf8 old → ShowsNoControl old → ShowsNoControl more → ShowsNoControl new
shows_result (Ok x) old more new ok err utf8 before behind =
    subst ShowsNoControl (sym ok) (shows_more old more utf8 before behind)
shows_result (Err e) old more new ok err utf8 before behind = subst ShowsNoControl (sym err) before

-- a character on which no terminal acts
or_true : (x y : Bool) → (x || (y || true)) ≡ true
or_true true y = refl
or_true false true = refl
or_true false false = refl

free_let : (c : ℕ) → is_acted_on c ≡ false → is_let c ≡ true
free_let c free = ap (λ t. c == 9 || (c == 10 || not t)) free ∙ or_true (c == 9) (c == 10)

pub shows_char : (c : ℕ) → IsScalar c → is_acted_on c ≡ false → ShowsNoControl (encode_utf8 c)
shows_char c scalar free =
    let one : chars (encode_utf8 c) ≡ c ∷ [] =
    ap chars (sym (append-nil (encode_utf8 c))) ∙ chars-encodes (c ∷ []) (ap (λ b. b && true) scalar) in
    ap (list_all is_let) one ∙ ap (λ b. b && true) (free_let c free)
