-- Attributes that are added one by one.
use Rattle.std.proofs.Common.{◌≡◌, ℕ, ◌++◌, List, [], ◌∷◌, sym, ap, ◌∙◌, append_assoc}
use Rattle.std.specs.Prelude.{Option}
use Rattle.std.specs.List.{flat_map}
use Rattle.std.proofs.lemmas.List.{append-nil}
use Rattle.cookie_text.specs.Attribute.{Attribute}
use Rattle.cookie_text.specs.Printing.{piece_text}

-- from a text to another by a piece at a time
abbrev pub Pushes : List ℕ → List (Option Attribute) → List ℕ → Type 0
Pushes a [] c = c ≡ a
Pushes a (x ∷ xs) c = (b : List ℕ) × (b ≡ a ++ piece_text x) × Pushes b xs c

pub pushed : (a : List ℕ) (xs : List (Option Attribute)) (c : List ℕ) → Pushes a xs c
    → c ≡ a ++ flat_map piece_text xs
pushed a [] c h = h ∙ sym (append-nil a)
pushed a (x ∷ xs) c h =
    pushed h.0 xs c h.2
    ∙ ap (λ t. t ++ flat_map piece_text xs) h.1
    ∙ append_assoc a (piece_text x) (flat_map piece_text xs)
