use Rattle.std.proofs.Common.{◌∙◌, ◌++◌, ap, lit<, string_bytes, subst, sym}
use Rattle.std.proofs.lemmas.Str.Pattern.{split_once_first}
use Rattle.user_agent.specs.KnownDates.{IsKnownLine, PutsKnown}
use Rattle.user_agent.proofs.KnownLemmas.{line_of, line_alone}
use Rattle.user_agent.proofs.known_date.with_known_date.Goals as goal

pub returns-in_ok-push_known_pieces-in-Some : goal.returns-in_ok-push_known_pieces-in-Some
returns-in_ok-push_known_pieces-in-Some c =
    let cut = rw c.in-Some.is at (split_once_first 59 c.args.line.now c.split_once.result c.split_once.ensures.cases
    (lit< tt)) in
    let begun = c.in_ok-push_str-in-Some.ensures.bytes
    ∙ ap (λ t. t ++ c.in-Some.first.now) c.in_ok-known.ensures.bytes in
    line_of c.args.line.now c.in-Some.first.now c.in-Some.rest.now
    (string_bytes c.push_known_pieces.new.known) cut.0 cut.1 cut.2
    (subst (λ t. PutsKnown c.in-Some.rest.now t (string_bytes c.push_known_pieces.new.known)) begun
    c.in_ok-push_known_pieces-in-Some.ensures)

pub returns-in_ok-push_str-in-None : goal.returns-in_ok-push_str-in-None
returns-in_ok-push_str-in-None c =
    let cut = rw c.in-None.is at (split_once_first 59 c.args.line.now c.split_once.result c.split_once.ensures.cases
    (lit< tt)) in
    let whole = c.in_ok-push_str-in-None.ensures.bytes
    ∙ ap (λ t. t ++ c.args.line.now) c.in_ok-known.ensures.bytes in
    subst (IsKnownLine c.args.line.now) (sym whole) (line_alone c.args.line.now cut)
