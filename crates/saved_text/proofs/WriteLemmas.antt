-- A string as it is written, part by part.
use Rattle.std.specs.Prelude.{flat_map}
use Rattle.std.proofs.Common.{◌≡◌, ℕ, ◌++◌, List, [], ◌∷◌, refl, sym, ap, ◌∙◌, append_assoc}
use Rattle.std.proofs.lemmas.Grind.{flat_map-append}
use Rattle.std.proofs.lemmas.List.{append-nil}
use Rattle.saved_text.specs.Written.{written_byte, quoted, AreSame}

same_text : (p : List ℕ) → AreSame p → flat_map written_byte p ≡ p
same_text [] h = refl
same_text (b ∷ p) h = λ i. h.0 i ++ same_text p h.1 i

-- one part more is written
pub more_written : (done rest same behind next : List ℕ) (b : ℕ) (mid last whole : List ℕ)
    → done ++ flat_map written_byte rest ≡ whole → rest ≡ same ++ behind → AreSame same → behind ≡ b ∷ next
    → mid ≡ done ++ same → last ≡ mid ++ written_byte b → last ++ flat_map written_byte next ≡ whole
more_written done rest same behind next b mid last whole i e h f m l =
    ap (λ q. q ++ flat_map written_byte next) (l ∙ ap (λ q. q ++ written_byte b) m)
    ∙ append_assoc (done ++ same) (written_byte b) (flat_map written_byte next)
    ∙ ap (λ q. (done ++ same) ++ flat_map written_byte q) (sym f)
    ∙ append_assoc done same (flat_map written_byte behind)
    ∙ ap (λ q. done ++ (q ++ flat_map written_byte behind)) (sym (same_text same h))
    ∙ ap (λ q. done ++ q) (sym (flat_map-append written_byte same behind) ∙ ap (flat_map written_byte) (sym e)) ∙ i

-- the last part is written
pub all_written : (done rest same behind : List ℕ) (mid last start text : List ℕ)
    → done ++ flat_map written_byte rest ≡ (start ++ 34 ∷ []) ++ flat_map written_byte text → rest ≡ same ++ behind
    → AreSame same → behind ≡ []
    → mid ≡ done ++ same → last ≡ mid ++ 34 ∷ [] → last ≡ start ++ quoted text
all_written done rest same behind mid last start text i e h f m l =
    let end : done ++ same ≡ (start ++ 34 ∷ []) ++ flat_map written_byte text =
    ap (λ q. done ++ q) (sym (same_text same h) ∙ ap (flat_map written_byte) (sym (e ∙ ap (λ q. same ++ q) f
    ∙ append-nil same))) ∙ i in
    l ∙ ap (λ q. q ++ 34 ∷ []) (m ∙ end)
    ∙ ap (λ q. q ++ 34 ∷ []) (append_assoc start (34 ∷ []) (flat_map written_byte text))
    ∙ append_assoc start (34 ∷ flat_map written_byte text) (34 ∷ [])
