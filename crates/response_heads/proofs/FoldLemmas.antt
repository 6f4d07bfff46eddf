-- Folded lines, and the field before them.
use Rattle.std.proofs.Common.{◌≡◌, ◌≤◌, ◌-◌, ◌+◌, ℕ, suc, true, cond, List, [], ◌∷◌, length, take, drop, get_or}
use Rattle.std.proofs.Common.{map, refl, sym, ap, ◌∙◌, arith}
use Rattle.std.specs.Prelude.{filter}
use Rattle.std.specs.List.{fold, prefix_len}
use Rattle.std.proofs.lemmas.List.{take_rest}
use Rattle.response_heads.specs.Lines.{FieldText, trimmed}
use Rattle.response_heads.specs.Read.{field_text, is_fold, is_value, joined, unfolded, values_named}
use Rattle.response_heads.specs.declared.head.Field.{Field}

-- ---- a field and what is behind it

more : (value : List ℕ) (line : FieldText) (behind : List FieldText) → is_fold line ≡ true
    → unfolded value (line ∷ behind) ≡ unfolded (joined value (trimmed line.value)) behind
unfolding unfolded
more value line behind is =
    let join : List ℕ → FieldText → List ℕ = λ text it. joined text (trimmed it.value) in
    let n = prefix_len is_fold behind in
    let next : 1 + n ≡ suc n = omega arith in
    ap (λ t. fold join value (take (cond t (1 + n) 0) (line ∷ behind))) is
    ∙ ap (λ k. fold join value (take k (line ∷ behind))) next

-- a folded line is behind it
pub unfolded_more : (value : List ℕ) (left : List Field) (d : Field) → 1 ≤ length left
    → is_fold (field_text (get_or left 0 d)) ≡ true
    → unfolded (joined value (trimmed (field_text (get_or left 0 d)).value))
    (map field_text (take (length left - 1) (drop 1 left))) ≡ unfolded value (map field_text left)
unfolded_more value [] d some is = absurd (omega (arith, some))
unfolded_more value (x ∷ left) d some is =
    let text = joined value (trimmed (field_text x).value) in
    ap (λ l. unfolded text (map field_text l)) (take_rest (x ∷ left) 1)
    ∙ sym (more value (field_text x) (map field_text left) is)

-- ---- the fields of a name

-- the values of those that are left
abbrev pub lines_in : List ℕ → List Field → List (List ℕ)
lines_in name left = filter is_value (values_named name (map field_text left))

pub lines_none : (name : List ℕ) (left : List Field) → length left ≡ 0 → lines_in name left ≡ []
lines_none name [] none = refl
lines_none name (x ∷ left) none = absurd (omega (arith, none))
