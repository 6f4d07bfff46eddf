use Rattle.std.proofs.Common.{◌∙◌, ◌++◌, ap, inr, refl, string_bytes}
use Rattle.jiff.specs.Words.{civil_nanos}
use Rattle.user_agent.proofs.CutLemmas.{cut_of}
use Rattle.user_agent.proofs.cut_life.push_cut.Goals as goal

pub returns-in_ok-push_str-in-Some : goal.returns-in_ok-push_str-in-Some
returns-in_ok-push_str-in-Some c =
    let brief = string_bytes c.in-Some.brief in
    let is_briefer = rw c.in-Some.is at c.in_ok-brief.ensures in (
      brief,
      cut_of (civil_nanos c.args.now) c.args.piece.now brief is_briefer,
      c.in_ok-push_str-in-Some.ensures.bytes
          ∙ ap (λ t. string_bytes c.args.cut.now ++ t) c.as_str.ensures.value,
    )

pub returns-in_ok-push_str-in-None : goal.returns-in_ok-push_str-in-None
returns-in_ok-push_str-in-None c =
    let is_brief = rw c.in-None.is at c.in_ok-brief.ensures in
    (c.args.piece.now, inr (inr (is_brief.0, is_brief.1, refl)), c.in_ok-push_str-in-None.ensures.bytes)
