-- A text that is cut at its semicolons and put together again.
use Rattle.std.proofs.Common.{◌≡◌, ℕ, ◌+◌, ◌<◌, ◌==◌, Bool, true, false, cond, List, [], ◌∷◌, ◌++◌, length, get_or}
use Rattle.std.proofs.Common.{refl}
use Rattle.std.proofs.Common.{sym, ap, ◌∙◌, arith, zero, suc}
use Rattle.std.specs.List.{All, flat_map, slice_split, onto_first}
use Rattle.std.proofs.lemmas.Bool.{cases_Bool, cond-true, cond-false}
use Rattle.std.proofs.lemmas.List.Elements.{All-nil, All-cons, All-head, All-tail}
use Rattle.std.proofs.lemmas.List.Splits.{slice_split_none, slice_split_at, slice_split-cons_yes, slice_split-cons_no}
use Rattle.std.proofs.lemmas.List.{append-nil}
use Rattle.cookie_text.specs.Pieces.{semicolon, pieces}
use Rattle.user_agent.specs.KnownDates.{joined_behind}

-- no semicolon in it
abbrev pub IsClean : List ℕ → Type 0
IsClean text = All (λ b. (b == semicolon) ≡ false) text

abbrev pub AreClean : List (List ℕ) → Type 0
AreClean [] = Unit {0}
AreClean (q ∷ qs) = IsClean q × AreClean qs

-- cut at its semicolons, a joined text gives back its pieces
pub pieces-joined : (p : List ℕ) (qs : List (List ℕ)) → IsClean p → AreClean qs
    → pieces (joined_behind p qs) ≡ p ∷ qs
pieces-joined p [] hp hq = rw (append-nil p) (slice_split_none (λ b. b == semicolon) p hp)
pieces-joined p (q ∷ qs) hp hq =
    slice_split_at (λ b. b == semicolon) p semicolon (joined_behind q qs) hp refl
    ∙ ap (λ rs. p ∷ rs) (pieces-joined q qs hq.0 hq.1)

-- the pieces of a text are clean
clean_onto : (b : ℕ) (ps : List (List ℕ)) → (b == semicolon) ≡ false → AreClean ps → AreClean (onto_first b ps)
clean_onto b [] other h =
    (All-cons (λ c. (c == semicolon) ≡ false) b [] other (All-nil (λ c. (c == semicolon) ≡ false)), tt)
clean_onto b (p ∷ ps) other h = (All-cons (λ c. (c == semicolon) ≡ false) b p other h.0, h.1)

pub pieces_clean : (text : List ℕ) → AreClean (pieces text)
pieces_clean [] = (All-nil (λ c. (c == semicolon) ≡ false), tt)
pieces_clean (b ∷ bs) = go (b == semicolon) refl (pieces_clean bs)
  where
    go : (x : Bool) → (b == semicolon) ≡ x → AreClean (pieces bs) → AreClean (pieces (b ∷ bs))
    go true e h = rw (slice_split-cons_yes (λ c. c == semicolon) b bs e) (All-nil (λ c. (c == semicolon) ≡ false), h)
    go false e h = rw (slice_split-cons_no (λ c. c == semicolon) b bs e) (clean_onto b (pieces bs) e h)

pub clean_at : (ps : List (List ℕ)) (i : ℕ) (d : List ℕ) → AreClean ps → i < length ps → IsClean (get_or ps i d)
clean_at [] i d h within = absurd (omega (arith, within))
clean_at (p ∷ ps) zero d h within = h.0
clean_at (p ∷ ps) (suc i) d h within = clean_at ps i d h.1 (omega arith)
