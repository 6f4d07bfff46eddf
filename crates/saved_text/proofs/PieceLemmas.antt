-- Texts that are written piece by piece, and strings run by run.
use Rattle.std.proofs.Common.{◌≡◌, ℕ, ◌++◌, List, [], ◌∷◌, refl, sym, ap, ◌∙◌, append_assoc, Bool, true, false}
use Rattle.std.specs.Prelude.{flat_map}
use Rattle.std.proofs.lemmas.Grind.{flat_map-append}
use Rattle.std.proofs.lemmas.List.{append-nil}
use Rattle.json.specs.Print.{escape_byte, quoted}
use Rattle.saved_text.specs.JsonWritten.{AreUnescaped}
use Rattle.saved_text.specs.RonLayout.{bool_layout}
use Rattle.saved_text.specs.Json.{bool_text}

-- ---- pieces

abbrev pub joined : List ℕ → List (List ℕ) → List ℕ
joined p [] = p
joined p (q ∷ ps) = p ++ joined q ps

-- from a text to another by a piece at a time
abbrev pub Steps : List ℕ → List ℕ → List (List ℕ) → List ℕ → Type 0
Steps a p [] c = c ≡ a ++ p
Steps a p (q ∷ ps) c = (b : List ℕ) × (b ≡ a ++ p) × Steps b q ps c

pub steps : (a p : List ℕ) (ps : List (List ℕ)) (c : List ℕ) → Steps a p ps c → c ≡ a ++ joined p ps
steps a p [] c h = h
steps a p (q ∷ ps) c h = steps h.0 q ps c h.2 ∙ ap (λ x. x ++ joined q ps) h.1 ∙ append_assoc a p (joined q ps)

pub bool_same : (b : Bool) → bool_layout b ≡ bool_text b
bool_same true = refl
bool_same false = refl

-- ---- strings

unescaped_text : (p : List ℕ) → AreUnescaped p → flat_map escape_byte p ≡ p
unescaped_text [] h = refl
unescaped_text (b ∷ p) h = λ i. h.0 i ++ unescaped_text p h.1 i

-- one run more is written, and the byte behind it
pub more_escaped : (done rest same behind next : List ℕ) (b : ℕ) (mid last whole : List ℕ)
    → done ++ flat_map escape_byte rest ≡ whole → rest ≡ same ++ behind → AreUnescaped same → behind ≡ b ∷ next
    → mid ≡ done ++ same → last ≡ mid ++ escape_byte b → last ++ flat_map escape_byte next ≡ whole
more_escaped done rest same behind next b mid last whole i e h f m l =
    ap (λ q. q ++ flat_map escape_byte next) (l ∙ ap (λ q. q ++ escape_byte b) m)
    ∙ append_assoc (done ++ same) (escape_byte b) (flat_map escape_byte next)
    ∙ ap (λ q. (done ++ same) ++ flat_map escape_byte q) (sym f) ∙ append_assoc done same (flat_map escape_byte behind)
    ∙ ap (λ q. done ++ (q ++ flat_map escape_byte behind)) (sym (unescaped_text same h))
    ∙ ap (λ q. done ++ q) (sym (flat_map-append escape_byte same behind) ∙ ap (flat_map escape_byte) (sym e)) ∙ i

-- the last run is written
pub all_escaped : (done rest same behind : List ℕ) (mid last start text : List ℕ)
    → done ++ flat_map escape_byte rest ≡ (start ++ 34 ∷ []) ++ flat_map escape_byte text → rest ≡ same ++ behind
    → AreUnescaped same → behind ≡ []
    → mid ≡ done ++ same → last ≡ mid ++ 34 ∷ [] → last ≡ start ++ quoted text
all_escaped done rest same behind mid last start text i e h f m l =
    let end : done ++ same ≡ (start ++ 34 ∷ []) ++ flat_map escape_byte text =
    ap (λ q. done ++ q) (sym (unescaped_text same h) ∙ ap (flat_map escape_byte)
    (sym (e ∙ ap (λ q. same ++ q) f ∙ append-nil same))) ∙ i in
    l ∙ ap (λ q. q ++ 34 ∷ []) (m ∙ end) ∙ ap (λ q. q ++ 34 ∷ [])
    (append_assoc start (34 ∷ []) (flat_map escape_byte text))
    ∙ append_assoc start (34 ∷ flat_map escape_byte text) (34 ∷ [])
