-- A comma between items, or before the bracket.
use Rattle.std.specs.Prelude.{codes, false, ◌⊎◌}
use Rattle.std.proofs.Common.{◌≡◌, ℕ, List, [], ◌∷◌, sym, subst, inl, inr}
use Rattle.saved_text.specs.Grammar.{Grammar}
use Rattle.saved_text.specs.Grammar.Grammar.{nothing, space, sign, seq, either, many}
use Rattle.saved_text.specs.Ron.{row, comma, optional}
use Rattle.saved_text.proofs.StepLemmas.{
  starts,
  nullable,
  Same,
  Same-refl,
  Same-trans,
  Same-assoc,
  Same-either,
  Same-many,
  Same-factor,
  either_parts,
  seq_parts,
}
use Rattle.saved_text.proofs.RonLemmas.{Goes, Goes-trans, Goes-same, Goes-left}
use Rattle.saved_text.proofs.RowLemmas.{Goes-else}

pub seq_left : (g k h : Grammar) → Same g k → Same (seq g h) (seq k h)
seq_left g k h e = record {
  down = λ text w o. (o.0, o.1, o.2, o.3, e.down o.0 o.2 o.4, o.5, o.6, o.7);
  up = λ text w o. (o.0, o.1, o.2, o.3, e.up o.0 o.2 o.4, o.5, o.6, o.7);
  front_down = λ text f. elim f [
    | inl p ↦ inl (e.front_down text p)
    | inr p ↦ inr
        (p.0, p.1, p.2, e.down p.0 p.2 p.3, p.4, p.5)
  ];
  front_up = λ text f. elim f [
    | inl p ↦ inl (e.front_up text p)
    | inr p ↦ inr
        (p.0, p.1, p.2, e.up p.0 p.2 p.3, p.4, p.5)
  ];
}

or_assoc : (a b c : Grammar) → Same (either a (either b c)) (either (either a b) c)
or_assoc a b c = record {
  down = λ text w o. elim o [ inl p ↦ inl (inl p) | inr q ↦ elim q [ inl p ↦ inl (inr p) | inr p ↦ inr p ] ];
  up = λ text w o. elim o [ inr p ↦ inr (inr p) | inl q ↦ elim q [ inl p ↦ inl p | inr p ↦ inr (inl p) ] ];
  front_down = λ text o. elim o [ inl p ↦ inl (inl p) | inr q ↦ elim q [ inl p ↦ inl (inr p) | inr p ↦ inr p ] ];
  front_up = λ text o. elim o [ inr p ↦ inr (inr p) | inl q ↦ elim q [ inl p ↦ inl p | inr p ↦ inr (inl p) ] ];
}

-- the bracket that ends a list
abbrev pub end : Grammar
end = sign (codes "]")

-- an item, and the white space behind it
abbrev pub item : Grammar
item = seq row space

-- what is left of a list behind an item
abbrev pub others : Grammar
others = seq (many (seq comma (seq space item))) (seq (optional (seq comma space)) end)

one_more : Same (seq (seq comma (seq space item)) others) (seq comma (seq space (seq item others)))
one_more = Same-trans _ _ _ (Same-assoc comma (seq space item) others)
    (seq_parts comma _ _ (Same-assoc space item others))

last_comma : Same (seq (optional (seq comma space)) end) (either (seq comma (seq space end)) (seq nothing end))
last_comma = Same-trans _ _ _ (Same-either (seq comma space) nothing end)
    (either_parts _ _ _ _ (Same-assoc comma space end) (Same-refl (seq nothing end)))

both_commas : Same (either (seq comma (seq space (seq item others))) (seq comma (seq space end)))
    (seq comma (seq space (either (seq item others) end)))
both_commas = Same-trans _ _ _ (Same-factor comma (seq space (seq item others)) (seq space end))
    (seq_parts comma _ _ (Same-factor space (seq item others) end))

-- a comma leads on, or a bracket ends the list
pub others_is : Same others (either (seq comma (seq space (either (seq item others) end))) (seq nothing end))
others_is =
    Same-trans _ _ _ (Same-many (seq comma (seq space item)) (seq (optional (seq comma space)) end))
    (Same-trans _ _ _ (either_parts _ _ _ _ one_more last_comma)
    (Same-trans _ _ _ (or_assoc (seq comma (seq space (seq item others))) (seq comma (seq space end)) (seq nothing end))
    (either_parts _ _ _ _ both_commas (Same-refl (seq nothing end)))))

-- ---- any order: one of several alternatives, by its first byte

abbrev pub choice : Grammar → List Grammar → Grammar
choice g [] = g
choice g (k ∷ ks) = either g (choice k ks)

-- not this one: it isn't empty, and begins with another byte
abbrev pub Not : Grammar → ℕ → Type 0
Not g c = (nullable g ≡ false) × (starts g c ≡ false)

-- p is the one of these that may begin with c
abbrev pub IsPick : Grammar → Grammar → List Grammar → ℕ → Type 0
IsPick p g [] c = p ≡ g
IsPick p g (k ∷ ks) c = ((p ≡ g) × Not (choice k ks) c) ⊎ (Not g c × IsPick p k ks c)

pub Goes-choice : (p g : Grammar) (ks : List Grammar) (c : ℕ) (r : List ℕ) → IsPick p g ks c
    → Goes (choice g ks) (c ∷ r) [] p (c ∷ r)
Goes-choice p g [] c r e = subst (λ q. Goes g (c ∷ r) [] q (c ∷ r)) (sym e)
    (Goes-same g g (c ∷ r) (λ h. Same-refl (seq g h)))
Goes-choice p g (k ∷ ks) c r (inl e) = subst (λ q. Goes (either g (choice k ks)) (c ∷ r) [] q (c ∷ r)) (sym e.0)
    (Goes-left g (choice k ks) c r e.1.0 e.1.1)
Goes-choice p g (k ∷ ks) c r (inr e) =
    Goes-trans (either g (choice k ks)) (choice k ks) p (c ∷ r) (c ∷ r) (c ∷ r) [] []
    (Goes-else g (choice k ks) (c ∷ r) e.0.0 e.0.1) (Goes-choice p k ks c r e.1)
