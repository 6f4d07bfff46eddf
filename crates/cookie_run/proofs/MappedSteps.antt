-- A loop that made something of each of the first elements of a list, one element further.
use Rattle.std.proofs.Common.{◌≡◌, ℕ, ◌+◌, ◌<◌, List, [], ◌∷◌, ◌++◌, length, take, get_or, sym, ap, ◌∙◌}
use Rattle.std.specs.Prelude.{map}
use Rattle.std.proofs.lemmas.List.{take_more, map-append}

pub map_more : {A B C : Type 0} (f : A → C) (g : B → C) (done more : List A) (x : A) (all : List B) (i : ℕ) (y : B)
    → more ≡ done ++ x ∷ [] → i < length all → y ≡ get_or all i y → f x ≡ g y
    → map f done ≡ map g (take i all) → map f more ≡ map g (take (i + 1) all)
map_more f g done more x all i y pushed less is same far =
    ap (map f) pushed ∙ (map-append f done (x ∷ []) ∙ (ap (λ cs. cs ++ f x ∷ []) far
    ∙ (ap (λ c. map g (take i all) ++ c ∷ []) (same ∙ ap g is)
    ∙ (sym (map-append g (take i all) (get_or all i y ∷ [])) ∙ ap (map g) (sym (take_more all i y less))))))
