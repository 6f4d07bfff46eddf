use Rattle.std.proofs.Common.{◌∙◌, sym, ap, inl, arith, rules, tests, None}
use Rattle.std.proofs.lemmas.Bool.Decides.{nat_tests}
use Rattle.std.specs.Prelude.{Ok}
use Rattle.cookie_text.specs.Record.{unsliced}
use Rattle.cookie_run.specs.RingPlay.{SetUntil}
use Rattle.cookie_run.specs.ScriptLine as spec
use Rattle.cookie_run.proofs.ScriptRings.{until_read, until_few, until_many}
use Rattle.cookie_run.proofs.script.line.read_set_until.Goals as goal
use Rattle.cookie_run.proofs.script.line.read_set_until.Goals.{in_default-via-then-fields-lt4}
use Rattle.cookie_run.proofs.script.line.read_set_until.Goals.{in_default-via-else-fields-lt4+else-fields-lt5}

pub returns-in_default : goal.returns-in_default
returns-in_default c = elim c.in_default.branch [
  | in_default-via-then-fields-lt4 w ↦ inl (until_few c.args.fields.now (grind (arith, nat_tests)))
  | in_default-via-else-fields-lt4+else-fields-lt5 w ↦ inl (until_many c.args.fields.now (search (rules, tests)))
]

pub returns : goal.returns
returns c =
    let way = c.in-Some.way in
    let until = c.in-Some-date_of.until in
    until_read c.args.fields.now _ _ _ _ way until c.in-len4.len_at_least c.in-len4.len_below (sym c.in-Some.ensures)
    (sym c.in-Some-date_of.ensures.date)
    ∙ ap (λ s. Ok (spec.Commands (SetUntil way s until)))
    ((λ i. unsliced (spec.dated (sym c.in_ok-name.ensures i) (sym c.in_ok-value.ensures i) None None))
    ∙ sym c.dated-cookie.ensures)
