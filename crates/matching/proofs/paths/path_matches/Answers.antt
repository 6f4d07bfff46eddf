use Rattle.std.proofs.Common.{◌≡◌, ◌++◌, Some, None, ◌∙◌, sym, ap, inl, inr, length, arith}
use Rattle.std.proofs.lemmas.Bool.{false≢true}
use Rattle.std.proofs.lemmas.Grind.{common_steps}
use Rattle.std.proofs.lemmas.List.{nil_from_length}
use Rattle.std.proofs.lemmas.Bool.Decides.{Decides-eqb}
use Rattle.std.proofs.lemmas.Slice.Eq.{strip_prefix_is}
use Rattle.matching.proofs.PathLemmas.{PathMatches-append, PathMatches-front}
use Rattle.matching.proofs.paths.path_matches.Goals as goal

pub returns-then-is_empty : goal.returns-then-is_empty
returns-then-is_empty c =
    let cookie = c.as_bytes-cookie_path.ensures.value in
    let request = c.as_bytes.ensures.value in
    let split = strip_prefix_is Decides-eqb _ _ (Some c.in-Some.rest) c.in-Some.ensures.cases in
    let law = PathMatches-append c.args.cookie_path.now c.args.request_path.now c.in-Some.rest.now
    (sym request ∙ split ∙ ap (λ p. p ++ c.in-Some.rest.now) cookie) in
    let none : length c.in-Some.rest.now ≡ 0 = grind (arith, common_steps) in
    let empty = nil_from_length c.in-Some.rest.now none in
    (λ _. law.1 (inl empty), λ _. c.if-is_empty.true)

pub returns-else-is_empty : goal.returns-else-is_empty
returns-else-is_empty c =
    let cookie = c.as_bytes-cookie_path.ensures.value in
    let request = c.as_bytes.ensures.value in
    let split = strip_prefix_is Decides-eqb _ _ (Some c.in-Some.rest) c.in-Some.ensures.cases in
    let law = PathMatches-append c.args.cookie_path.now c.args.request_path.now c.in-Some.rest.now
    (sym request ∙ split ∙ ap (λ p. p ++ c.in-Some.rest.now) cookie) in
    let meets = rw cookie at c.meet_at_slash.ensures in (
      λ t. law.1 (inr (meets.0 t)),
      λ m. elim (law.0 m) [
        | inl empty ↦
            let none : length c.in-Some.rest.now ≡ 0 = ap length empty in
            absurd (grind (arith, common_steps))
        | inr meet ↦ meets.1 meet
      ],
    )

pub returns-in-None : goal.returns-in-None
returns-in-None c =
    let cookie = c.as_bytes-cookie_path.ensures.value in
    let request = c.as_bytes.ensures.value in
    let none = strip_prefix_is Decides-eqb _ _ None c.in-None.ensures.cases in (
      λ t. absurd (false≢true t),
      λ m.
          let front = PathMatches-front _ _ m in
          absurd (none front.0 (request ∙ front.1 ∙ ap (λ p. p ++ front.0) (sym cookie))),
    )
