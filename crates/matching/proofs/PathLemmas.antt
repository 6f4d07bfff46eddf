-- Where a request-path is cut at the end of a cookie-path.
use Rattle.std.proofs.Common.{◌≡◌, ◌↔◌, ◌⊎◌, ◌++◌, ℕ, List, [], refl, sym, ap, ◌∙◌, inl, inr, append-nil}
use Rattle.std.proofs.lemmas.List.Prefix.{front_rest}
use Rattle.matching.specs.Paths.{PathMatches, MeetAtSlash}

-- past a front, the rest of a list is the only one
rest_unique : (front rest other : List ℕ) → front ++ rest ≡ front ++ other → rest ≡ other
rest_unique front rest other e =
    sym (front_rest (front ++ rest) front rest refl) ∙ front_rest (front ++ rest) front other e

pub PathMatches-append : (cookie_path request_path rest : List ℕ)
    → request_path ≡ cookie_path ++ rest
    → PathMatches cookie_path request_path ↔ ((rest ≡ []) ⊎ MeetAtSlash cookie_path rest)
PathMatches-append cookie_path request_path rest split = (
  elim [
    | inl same ↦ inl (rest_unique cookie_path rest [] (sym split ∙ same ∙ sym (append-nil cookie_path)))
    | inr prefix ↦
        let e = rest_unique cookie_path prefix.rest rest (sym prefix.split ∙ split) in
        inr (rw e at prefix.at_slash)
  ],
  elim [
    | inl empty ↦ inl (split ∙ ap (λ r. cookie_path ++ r) empty ∙ append-nil cookie_path)
    | inr meet ↦ inr (record { rest = rest; split = split; at_slash = meet })
  ],
)

-- what a list that has no such front is not matched by
pub PathMatches-front : (cookie_path request_path : List ℕ) → PathMatches cookie_path request_path
    → (rest : List ℕ) × (request_path ≡ cookie_path ++ rest)
PathMatches-front cookie_path request_path (inl same) = ([], same ∙ sym (append-nil cookie_path))
PathMatches-front cookie_path request_path (inr prefix) = (prefix.rest, prefix.split)
