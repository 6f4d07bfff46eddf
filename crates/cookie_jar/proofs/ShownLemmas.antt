-- What is shown is what the escape set of the code writes.
use Rattle.std.proofs.Common.{◌≡◌, ℕ, true, false, ◌<◌, ◌≤◌, cond, List, [], ◌∷◌, ◌++◌, refl, ap, ◌∙◌}
use Rattle.std.proofs.Common.{⊎_elim, arith}
use Rattle.std.specs.List.{flat_map}
use Rattle.std.proofs.lemmas.Bool.{cases_lt, agree_below_at}
use Rattle.std.proofs.lemmas.Bool.Decides.{nat_tests}
use Rattle.percent_encoding.proofs.PercentLemmas.{All-percent_encode, IsEscapeByte}
use Rattle.percent_encoding.specs.AsciiSet.{should_percent_encode}
use Rattle.percent_encoding.specs.Percent.{percent_encode, percent_encode_byte, encode_byte}
use Rattle.cookie_jar.specs.declared.terminal.TheConstants.{HIDDEN}
use Rattle.cookie_jar.specs.Terminal.{ShowsNoControl, is_hidden, is_plain, shown}
use Rattle.cookie_jar.proofs.TerminalLemmas.{shows_plain}

set_below : (b : ℕ) → b < 128 → is_hidden b ≡ should_percent_encode HIDDEN b
unfolding should_percent_encode
set_below b small = agree_below_at is_hidden (should_percent_encode HIDDEN) 128 b refl small

set_above : (b : ℕ) → 128 ≤ b → is_hidden b ≡ should_percent_encode HIDDEN b
unfolding should_percent_encode
set_above b large = grind (arith, nat_tests)

same_set : (b : ℕ) → is_hidden b ≡ should_percent_encode HIDDEN b
same_set b = ⊎_elim (set_below b) (set_above b) (cases_lt b 128)

flat_map_agree : (f g : ℕ → List ℕ) → ((b : ℕ) → f b ≡ g b) → (bs : List ℕ) → flat_map f bs ≡ flat_map g bs
flat_map_agree f g h [] = refl
flat_map_agree f g h (b ∷ bs) = ap (λ x. x ++ flat_map f bs) (h b) ∙ ap (λ x. g b ++ x) (flat_map_agree f g h bs)

pub shown-percent_encode : (text : List ℕ) → shown text ≡ percent_encode HIDDEN text
unfolding percent_encode
shown-percent_encode text = flat_map_agree _ (encode_byte HIDDEN)
    (λ b. ap (λ t. cond t (percent_encode_byte b) (b ∷ [])) (same_set b)) text

kept_plain : (b : ℕ) → should_percent_encode HIDDEN b ≡ false → is_plain b ≡ true
kept_plain b kept = let is : is_hidden b ≡ false = same_set b ∙ kept in grind (arith, nat_tests)

escape_plain : (b : ℕ) → IsEscapeByte b → is_plain b ≡ true
escape_plain b h = grind (arith, nat_tests)

pub shows_encoded : (text : List ℕ) → ShowsNoControl (percent_encode HIDDEN text)
shows_encoded text =
    shows_plain _ (All-percent_encode (λ b. is_plain b ≡ true) HIDDEN text kept_plain escape_plain)
