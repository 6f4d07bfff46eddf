use Rattle.std.proofs.Common.{◌∙◌, ◌++◌, ap, lit<, string_bytes, subst, sym}
use Rattle.std.proofs.lemmas.Str.Pattern.{split_once_first}
use Rattle.jiff.specs.Words.{civil_nanos}
use Rattle.user_agent.specs.CutLives.{IsCutLine, PutsCut}
use Rattle.user_agent.proofs.CutLemmas.{cut_line_of, cut_line_alone}
use Rattle.user_agent.proofs.cut_life.with_cut_life.Goals as goal

pub returns-in_ok-push_cut_pieces-in-Some : goal.returns-in_ok-push_cut_pieces-in-Some
returns-in_ok-push_cut_pieces-in-Some c =
    let cut = rw c.in-Some.is at (split_once_first 59 c.args.line.now c.split_once.result c.split_once.ensures.cases
    (lit< tt)) in
    let begun = c.in_ok-push_str-in-Some.ensures.bytes
    ∙ ap (λ t. t ++ c.in-Some.first.now) c.in_ok-cut.ensures.bytes in
    cut_line_of (civil_nanos c.args.now) c.args.line.now c.in-Some.first.now c.in-Some.rest.now
    (string_bytes c.push_cut_pieces.new.cut) cut.0 cut.1 cut.2
    (subst (λ t. PutsCut (civil_nanos c.args.now) c.in-Some.rest.now t (string_bytes c.push_cut_pieces.new.cut)) begun
    c.in_ok-push_cut_pieces-in-Some.ensures)

pub returns-in_ok-push_str-in-None : goal.returns-in_ok-push_str-in-None
returns-in_ok-push_str-in-None c =
    let cut = rw c.in-None.is at (split_once_first 59 c.args.line.now c.split_once.result c.split_once.ensures.cases
    (lit< tt)) in
    let whole = c.in_ok-push_str-in-None.ensures.bytes
    ∙ ap (λ t. t ++ c.args.line.now) c.in_ok-cut.ensures.bytes in
    subst (IsCutLine (civil_nanos c.args.now) c.args.line.now) (sym whole)
    (cut_line_alone (civil_nanos c.args.now) c.args.line.now cut)
