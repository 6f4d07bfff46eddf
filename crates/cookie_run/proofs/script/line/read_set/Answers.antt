use Rattle.std.proofs.Common.{◌∙◌, sym, ap, inl, arith, rules, tests}
use Rattle.std.proofs.lemmas.Bool.Decides.{nat_tests}
use Rattle.std.specs.Prelude.{option_map, Ok}
use Rattle.jiff.specs.Words.{signed_nanos}
use Rattle.cookie_text.specs.Record.{unsliced}
use Rattle.cookie_run.specs.ScriptLine as spec
use Rattle.cookie_run.specs.RingPlay.{Set}
use Rattle.cookie_run.proofs.ScriptLines.{set_read, set_few, set_many}
use Rattle.cookie_run.proofs.script.line.read_set.Goals as goal
use Rattle.cookie_run.proofs.script.line.read_set.Goals.{in_default-via-then-fields-lt5}
use Rattle.cookie_run.proofs.script.line.read_set.Goals.{in_default-via-else-fields-lt5+else-fields-lt6}

pub returns-in_default : goal.returns-in_default
returns-in_default c = elim c.in_default.branch [
  | in_default-via-then-fields-lt5 w ↦ inl (set_few c.args.fields.now (grind (arith, nat_tests)))
  | in_default-via-else-fields-lt5+else-fields-lt6 w ↦ inl (set_many c.args.fields.now (search (rules, tests)))
]

pub returns : goal.returns
returns c =
    let age = option_map signed_nanos c.in_ok-max_age.max_age in
    let end = c.in_ok-expires.expires in
    set_read c.args.fields.now _ _ _ _ _ c.in-Some.way age end c.in-len5.len_at_least c.in-len5.len_below
    (sym c.in-Some.ensures) c.in_ok-max_age.ensures.age c.in_ok-expires.ensures.end
    ∙ ap (λ s. Ok (spec.Commands (Set c.in-Some.way s)))
    ((λ i. unsliced (spec.dated (sym c.in_ok-name.ensures i) (sym c.in_ok-value.ensures i) age end))
    ∙ sym c.dated-cookie.ensures)
