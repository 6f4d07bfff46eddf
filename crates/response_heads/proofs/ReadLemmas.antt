-- The fields of a name, and where a head leads.
use Rattle.std.proofs.Common.{◌≡◌, ◌<◌, ◌+◌, ◌++◌, ◌||◌, ◌∷◌, ℕ, Bool, true, false, List, [], length, map}
use Rattle.std.proofs.Common.{sym, ap, append-nil, arith, refl, ◌∙◌}
use Rattle.std.specs.Prelude.{filter, if◌then◌else◌}
use Rattle.std.specs.List.{list_any}
use Rattle.response_heads.specs.Heads.{HeadText}
use Rattle.response_heads.specs.Lines.{FieldText}
use Rattle.response_heads.specs.Read.{LocationText, field_text, is_named, is_redirection, located, locations}
use Rattle.response_heads.specs.declared.head.Field.{Field}

-- the fields of this name
abbrev pub named : List ℕ → List Field → List FieldText
named name fields = filter (is_named name) (map field_text fields)

pub locations_are : (head : HeadText) (given : List LocationText) → is_redirection head.status ≡ true
    → given ≡ located (head.number + 1) head.fields → given ≡ locations head
unfolding locations
locations_are head given redirects e =
    e ∙ sym (ap (λ t. if t then located (head.number + 1) head.fields else []) redirects)

pub locations_none : (head : HeadText) (given : List LocationText) → is_redirection head.status ≡ false → given ≡ []
    → given ≡ locations head
unfolding locations
locations_none head given redirects e =
    e ∙ sym (ap (λ t. if t then located (head.number + 1) head.fields else []) redirects)

-- no line is left to be looked at
pub all_found : (found all : List LocationText) (line : ℕ) (left : List Field) → length left < 1
    → found ++ located line (map field_text left) ≡ all → found ≡ all
all_found found all line [] none e = sym (append-nil found) ∙ e
all_found found all line (field ∷ left) none e = absurd (omega (arith, none))

-- a test of what each gives
pub any_given : {A B : Type 0} (f : A → B) (test : B → Bool) (xs : List A)
    → list_any (λ x. test (f x)) xs ≡ list_any test (map f xs)
any_given f test [] = refl
any_given f test (x ∷ xs) = ap (λ b. test (f x) || b) (any_given f test xs)
