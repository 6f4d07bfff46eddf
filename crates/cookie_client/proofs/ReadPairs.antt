-- Names and values that a text gives, as tests.
use Rattle.std.proofs.Common.{◌≡◌, ◌∷◌, [], ℕ, Bool, true, false, List, length, refl, arith}
use Rattle.std.specs.Prelude.{◌==◌, ◌&&◌, not}
use Rattle.std.specs.List.{list_any}
use Rattle.std.specs.Str.{bytes_eq, trim}
use Rattle.std.proofs.lemmas.Bool.{and_from, and_parts, not_from_false, or_from, or_parts}
use Rattle.std.proofs.lemmas.Bool.Decides.{nat_tests}
use Rattle.std.proofs.lemmas.Slice.Eq.{bytes_eq-Decides}
use Rattle.cookie_text.specs.Again.{IsReadPair, Lacks}
use Rattle.cookie_client.specs.Pair.{is_read_pair, is_whole}

lacks_any : (k : ℕ) (xs : List ℕ) → list_any (λ b. b == k) xs ≡ false → Lacks k xs
lacks_any k [] none = tt
lacks_any k (x ∷ xs) none =
    let both = or_parts (x == k) (list_any (λ b. b == k) xs) none in
    ((λ same. grind (arith, nat_tests, both.0, same)), lacks_any k xs both.1)

any_lacks : (k : ℕ) (xs : List ℕ) → Lacks k xs → list_any (λ b. b == k) xs ≡ false
any_lacks k [] lacks = refl
any_lacks k (x ∷ xs) lacks =
    let other : (x == k) ≡ false = grind (arith, nat_tests, lacks.0) in
    or_from (x == k) (list_any (λ b. b == k) xs) other (any_lacks k xs lacks.1)

pub not_so : (b : Bool) → not b ≡ true → b ≡ false
not_so false h = refl
not_so true h = absurd (cc)

whole_parts : (text : List ℕ) → is_whole text ≡ true → Lacks 59 text × (trim text ≡ text)
whole_parts text h =
    let both = and_parts (not (list_any (λ b. b == 59) text)) (bytes_eq (trim text) text) h in
    (lacks_any 59 text (not_so _ both.0), (bytes_eq-Decides (trim text) text).0 both.1)

whole_from : (text : List ℕ) → Lacks 59 text → trim text ≡ text → is_whole text ≡ true
whole_from text lacks same =
    and_from (not (list_any (λ b. b == 59) text)) (bytes_eq (trim text) text)
    (not_from_false _ (any_lacks 59 text lacks)) ((bytes_eq-Decides (trim text) text).1 same)

pub pair_parts : (n v : List ℕ) → is_read_pair n v ≡ true → IsReadPair n v
pair_parts n v h =
    let all = and_parts ((not (length n == 0) && not (list_any (λ b. b == 61) n)) && is_whole n) (is_whole v) h in
    let name = and_parts (not (length n == 0) && not (list_any (λ b. b == 61) n)) (is_whole n) all.0 in
    let first = and_parts (not (length n == 0)) (not (list_any (λ b. b == 61) n)) name.0 in
    let some : (length n == 0) ≡ false = not_so _ first.0 in
    record {
      named = grind (arith, nat_tests, some);
      name_uncut = lacks_any 61 n (not_so _ first.1);
      name_whole = (whole_parts n name.1).0;
      name_trimmed = (whole_parts n name.1).1;
      value_whole = (whole_parts v all.1).0;
      value_trimmed = (whole_parts v all.1).1;
    }

pub pair_from : (n v : List ℕ) → IsReadPair n v → is_read_pair n v ≡ true
pair_from n v h =
    let some : (length n == 0) ≡ false = grind (arith, nat_tests, h.named) in
    and_from ((not (length n == 0) && not (list_any (λ b. b == 61) n)) && is_whole n) (is_whole v)
    (and_from (not (length n == 0) && not (list_any (λ b. b == 61) n)) (is_whole n)
    (and_from (not (length n == 0)) (not (list_any (λ b. b == 61) n)) (not_from_false _ some)
    (not_from_false _ (any_lacks 61 n h.name_uncut)))
    (whole_from n h.name_whole h.name_trimmed))
    (whole_from v h.value_whole h.value_trimmed)
