-- The rows of a store that are held rightly, copied one after another, are its rows without the others.
use Rattle.std.proofs.Common.{◌≡◌, ℤ, true, List, [], ◌∷◌, ◌++◌, map, Option, None, Result, Ok, sym, refl, ap, ◌∙◌}
use Rattle.std.proofs.Common.{subst, inl, inr, append_assoc}
use Rattle.std.specs.Iterator.{AlwaysYields, Drains}
use Rattle.std.proofs.lemmas.List.{append-nil, map-append}
use Rattle.store_parts.specs.declared.error.Error.{Error}
use Rattle.cookie_store.specs.Given.{ArePicked}
use Rattle.cookie_store.specs.Grouped.{AreGrouped, IsSublist, PartsStay}
use Rattle.cookie_store.specs.LoadedLines.{GivesStore}
use Rattle.cookie_store.specs.Rows.{Row, Store}
use Rattle.cookie_store.specs.StoredCookie.{stored_of}
use Rattle.cookie_store.specs.declared.stored_cookie.Cookie.{Cookie}
use Rattle.cookie_client.specs.HostPrefix.{IsHeldRightly}
use Rattle.cookie_client.proofs.RowsKept.{later}

-- what is picked of the rows that are left stands behind what was copied
abbrev pub CopiesSoFar : List Row → List Cookie → List Row → Type 0
CopiesSoFar rows done left =
    (picked : List Row) → ArePicked IsHeldRightly left picked
    → ArePicked IsHeldRightly rows (map stored_of done ++ picked)

pub copies_more : (rows left rest : List Row) (done : List Cookie) (cookie : Cookie) (row : Row) → left ≡ row ∷ rest
    → IsHeldRightly row → stored_of cookie ≡ row → CopiesSoFar rows done left
    → CopiesSoFar rows (done ++ cookie ∷ []) rest
copies_more rows left rest done cookie row is held same far = λ picked p.
    let joined : map stored_of (done ++ cookie ∷ []) ++ picked ≡ map stored_of done ++ row ∷ picked =
    ap (λ xs. xs ++ picked) (map-append stored_of done (cookie ∷ []))
    ∙ (append_assoc (map stored_of done) (stored_of cookie ∷ []) picked
    ∙ ap (λ r. map stored_of done ++ r ∷ picked) same) in
    subst (ArePicked IsHeldRightly rows) (sym joined)
    (far (row ∷ picked) (subst (λ l. ArePicked IsHeldRightly l (row ∷ picked)) (sym is) (picked, p, inl (held, refl))))

pub copies_same : (rows left rest : List Row) (done : List Cookie) (row : Row) → left ≡ row ∷ rest
    → ¬ (IsHeldRightly row) → CopiesSoFar rows done left → CopiesSoFar rows done rest
copies_same rows left rest done row is other far = λ picked p.
    far picked (subst (λ l. ArePicked IsHeldRightly l picked) (sym is) (picked, p, inr (other, refl)))

pub copies_all : (rows left : List Row) (done : List Cookie) → left ≡ [] → CopiesSoFar rows done left
    → ArePicked IsHeldRightly rows (map stored_of done)
copies_all rows left done none far =
    subst (ArePicked IsHeldRightly rows) (append-nil (map stored_of done))
    (far [] (subst (λ l. ArePicked IsHeldRightly l []) (sym none) refl))

-- ---- a store of them

pub picked_part : (Is : Row → Type 0) (rows picked : List Row) → ArePicked Is rows picked → IsSublist picked rows
picked_part Is [] picked p = subst (λ xs. IsSublist xs []) (sym p) tt
picked_part Is (r ∷ rs) picked (rest, p, inl is) =
    subst (λ xs. IsSublist xs (r ∷ rs)) (sym is.1) (inl (refl, picked_part Is rs rest p))
picked_part Is (r ∷ rs) picked (rest, p, inr is) =
    subst (λ xs. IsSublist xs (r ∷ rs)) (sym is.1) (later rest rs r (picked_part Is rs rest p))

-- what an iterator gives to its end is what it always yields
pub drained : {S A : Type 0} (steps : S → Option A → S → Type 0) (s : S) (xs ys : List A)
    → AlwaysYields steps (λ x. x) s ys → Drains steps s xs → xs ≡ ys
drained steps s [] [] always d = refl
drained steps s (x ∷ xs) [] always (u, (t, (j, first, rest), last)) = absurd (always x j first)
drained steps s [] (y ∷ ys) always (u, (t, same, last)) =
    absurd (always.0 u (subst (λ v. steps v None u) (sym same) last))
drained steps s (x ∷ xs) (y ∷ ys) always (u, (t, (j, first, rest), last)) =
    let next = always.1 x j first in
    let tails : xs ≡ ys = drained steps j xs ys next.1 (u, (t, rest, last)) in
    λ i. next.0 i ∷ tails i

abbrev pub ok_of : Cookie → Result Cookie Error
ok_of c = Ok c

pub same_cookies : (xs ys : List Cookie) → map ok_of xs ≡ map ok_of ys → xs ≡ ys
same_cookies [] [] e = refl
same_cookies [] (y ∷ ys) e = absurd (cc)
same_cookies (x ∷ xs) [] e = absurd (cc)
same_cookies (x ∷ xs) (y ∷ ys) e =
    let first : x ≡ y = cc in
    let rest : map ok_of xs ≡ map ok_of ys = cc in
    let tails = same_cookies xs ys rest in
    λ i. first i ∷ tails i

pub copies_are : {S : Type 0} (parts : PartsStay) (steps : S → Option (Result Cookie Error) → S → Type 0) (iter : S)
    (rows : List Row) (now : ℤ) (cookies : List Cookie) (items : List (Result Cookie Error)) (left : Store)
    → AreGrouped rows → items ≡ map Ok cookies → ArePicked IsHeldRightly rows (map stored_of cookies)
    → AlwaysYields steps (λ x. x) iter items → GivesStore steps iter true now left
    → ArePicked IsHeldRightly rows left.rows
copies_are parts steps iter rows now cookies items left grouped are picked always (given, drains, is) =
    let same = same_cookies given cookies (drained steps iter (map Ok given) items always drains ∙ are) in
    let part = map stored_of cookies in
    let placed : left.rows ≡ part =
    ap (λ (s : Store). s.rows) is
    ∙ (ap (λ cs. Rattle.cookie_store.specs.Placing.put_all (map stored_of cs) []) same
    ∙ parts.stay rows part grouped (picked_part IsHeldRightly rows part picked)) in
    subst (ArePicked IsHeldRightly rows) (sym placed) picked
