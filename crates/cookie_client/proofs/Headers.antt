-- A header grows by one pair.
use Rattle.std.proofs.Common.{◌≡◌, ℕ, false, eqb, List, [], ◌∷◌, ◌++◌, length, sym, refl, ap, ◌∙◌, arith, append_assoc}
use Rattle.std.proofs.Common.{length-append, map}
use Rattle.std.specs.Borrow.{Bor}
use Rattle.std.proofs.lemmas.Bool.{cond-false}
use Rattle.std.proofs.lemmas.Bool.Decides.{nat_tests}
use Rattle.cookie_store.specs.Given.{pair_of, lent_row}
use Rattle.cookie_store.specs.declared.stored_cookie.Cookie.{Cookie}
use Rattle.cookie_client.specs.Header.{header_of, pair_text, with_pair}

abbrev Pair : Type 0
Pair = List ℕ × List ℕ

pair_some : (n v : List ℕ) → eqb (length (n ++ 61 ∷ v)) 0 ≡ false
pair_some [] v = grind (arith, nat_tests)
pair_some (b ∷ bs) v = grind (arith, nat_tests)

header_some : (pair : Pair) (pairs : List Pair) → eqb (length (header_of (pair ∷ pairs))) 0 ≡ false
header_some pair [] = pair_some pair.0 pair.1
header_some pair (next ∷ pairs) = grind (arith, nat_tests, length-append)

header_push : (pairs : List Pair) (pair : Pair) → header_of (pairs ++ pair ∷ []) ≡ with_pair (header_of pairs) pair
header_push [] pair = refl
header_push (a ∷ []) pair = sym (cond-false _ _ _ (pair_some a.0 a.1))
header_push (a ∷ b ∷ pairs) pair =
    ap (λ x. pair_text a ++ 59 ∷ 32 ∷ x) (header_push (b ∷ pairs) pair ∙ cond-false _ _ _ (header_some b pairs))
    ∙ (sym (append_assoc (pair_text a) (59 ∷ 32 ∷ header_of (b ∷ pairs)) (59 ∷ 32 ∷ pair_text pair))
    ∙ sym (cond-false _ _ _ (header_some a (b ∷ pairs))))

pairs_push : (cookies : List (Bor Cookie)) (cookie : Bor Cookie)
    → map pair_of (map lent_row (cookies ++ cookie ∷ []))
    ≡ map pair_of (map lent_row cookies) ++ pair_of (lent_row cookie) ∷ []
pairs_push [] cookie = refl
pairs_push (c ∷ cookies) cookie = ap (λ ps. pair_of (lent_row c) ∷ ps) (pairs_push cookies cookie)

pub header_more : (cookies : List (Bor Cookie)) (cookie : Bor Cookie) (text new name value : List ℕ)
    → text ≡ header_of (map pair_of (map lent_row cookies)) → name ≡ (pair_of (lent_row cookie)).0
    → value ≡ (pair_of (lent_row cookie)).1 → new ≡ with_pair text (name, value)
    → new ≡ header_of (map pair_of (map lent_row (cookies ++ cookie ∷ [])))
header_more cookies cookie text new name value e named valued is =
    is ∙ (ap (λ n. with_pair text (n, value)) named
    ∙ (ap (λ v. with_pair text ((pair_of (lent_row cookie)).0, v)) valued
    ∙ (ap (λ t. with_pair t (pair_of (lent_row cookie))) e
    ∙ (sym (header_push (map pair_of (map lent_row cookies)) (pair_of (lent_row cookie)))
    ∙ ap header_of (sym (pairs_push cookies cookie))))))
