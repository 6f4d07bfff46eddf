-- Lemmas on the pieces of a text.
use Rattle.std.proofs.Common.{◌≡◌, ◌≢◌, ℕ, ◌==◌, Bool, true, false, cond, List, [], ◌∷◌, ◌++◌, refl, sym, ap, ◌∙◌}
use Rattle.std.proofs.Common.{eqb-true}
use Rattle.cookie_text.specs.Record.{without_dot}

-- a text that begins with no dot
pub without_dot_none : (t : List ℕ) → ((rest : List ℕ) → t ≢ 46 ∷ rest) → t ≡ without_dot t
without_dot_none [] h = refl
without_dot_none (b ∷ bs) h = go _ refl
  where
    go : (x : Bool) → (b == 46) ≡ x → ◌≡◌ {A = List ℕ} (b ∷ bs) (cond x bs (b ∷ bs))
    go true e = absurd (h bs (ap (λ n. n ∷ bs) (eqb-true b 46 e)))
    go false e = refl

-- a text that begins with a quote and doesn't go on to end with one
pub no_last_quote : (text rest : List ℕ) → text ≡ 34 ∷ rest → ((front : List ℕ) → rest ≢ front ++ 34 ∷ [])
    → (middle : List ℕ) → text ≢ 34 ∷ middle ++ 34 ∷ []
no_last_quote text rest first none middle e =
    let same : ◌≡◌ {A = List ℕ} (34 ∷ rest) (34 ∷ (middle ++ 34 ∷ [])) = sym first ∙ e in
    none middle (cc)
