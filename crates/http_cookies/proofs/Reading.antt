-- Fields, read one after another.
use Rattle.std.proofs.Common.{◌≡◌, ℕ, List, [], ◌∷◌, ◌++◌, map, refl, sym, ap, ◌∙◌}
use Rattle.std.specs.List.{flat_map}
use Rattle.http_header.specs.FieldValue.{FieldValue}
use Rattle.http_cookies.specs.Fields.{joined}

further : (values : List FieldValue)
    → flat_map (λ v. 59 ∷ 32 ∷ v.bytes) values ≡ flat_map (λ next. 59 ∷ 32 ∷ next) (map (λ v. v.bytes) values)
further [] = refl
further (v ∷ values) = ap (λ (bytes : List ℕ). 59 ∷ 32 ∷ v.bytes ++ bytes) (further values)

pub header_begins : (header : List ℕ) (all : List FieldValue) (first : FieldValue) (rest : List FieldValue)
    → all ≡ first ∷ rest → header ≡ first.bytes
    → header ++ flat_map (λ v. 59 ∷ 32 ∷ v.bytes) rest ≡ joined (map (λ v. v.bytes) all)
header_begins header all first rest cut is =
    ap (λ (h : List ℕ). h ++ flat_map (λ v. 59 ∷ 32 ∷ v.bytes) rest) is
    ∙ (ap (λ (bytes : List ℕ). first.bytes ++ bytes) (further rest)
    ∙ ap (λ (values : List FieldValue). joined (map (λ v. v.bytes) values)) (sym cut))
