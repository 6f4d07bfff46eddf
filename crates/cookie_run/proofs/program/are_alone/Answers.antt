use Rattle.std.proofs.Common.{◌≡◌, ◌∙◌, ◌<◌, ◌≤◌, ℕ, List, [], ◌∷◌, length, get_or, arith, ap, sym}
use Rattle.std.specs.Prelude.{map, string_bytes}
use Rattle.std.specs.Str.{bytes_eq}
use Rattle.std.proofs.lemmas.Slice.Eq.{bytes_eq-Decides}
use Rattle.cookie_run.proofs.program.are_alone.Goals as goal

one_word : {A : Type 0} (view : A → List ℕ) (words : List A) (w : A) → 1 ≤ length words → length words < 2
    → w ≡ get_or words 0 w → map view words ≡ view w ∷ []
one_word view [] w low high is = absurd (omega (arith, low))
one_word view (a ∷ []) w low high is = ap (λ x. view x ∷ []) (sym is)
one_word view (a ∷ b ∷ more) w low high is = absurd (omega (arith, high))

first_same : (x y : List ℕ) → x ∷ [] ≡ y ∷ [] → x ≡ y
first_same x y e = cc

pub returns-in-len1 : goal.returns-in-len1
returns-in-len1 c =
    let one = one_word string_bytes c.args.words.now c.word-item.result c.in-len1.len_at_least c.in-len1.len_below
    c.word-item.is in
    let asked = c.args.asked.now in
    let is = c.eq.ensures ∙ ap (λ text. bytes_eq text asked) c.as_str.ensures.value in
    let decides = bytes_eq-Decides (string_bytes c.word-item.result) asked in (
      λ yes. one ∙ ap (λ word. word ∷ []) (decides.0 (sym is ∙ yes)),
      λ all. is ∙ decides.1 (first_same (string_bytes c.word-item.result) asked (sym one ∙ all)),
    )
