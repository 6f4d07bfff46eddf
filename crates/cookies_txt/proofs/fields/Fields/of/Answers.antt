use Rattle.std.proofs.Common.{◌∙◌, None, option_map, sym, ap}
use Rattle.cookies_txt.specs.Steps.{texts_of}
use Rattle.cookies_txt.proofs.FieldLemmas.{joined_fields}
use Rattle.cookies_txt.proofs.fields.Fields.of.Goals as goal

pub returns-in_err-name : goal.returns-in_err-name
returns-in_err-name c =
    ap (option_map texts_of) c.from_residual-in_err-name.ensures
    ∙ sym (joined_fields c.args.line.now _ _ _ _ _ _ _ _ _ _ None c.in_ok-domain.ensures c.in_ok-below.ensures
    c.in_ok-path.ensures c.in_ok-secure.ensures c.in_ok-expires.ensures
    (sym c.last_two.ensures ∙ ap (option_map _) (c.in_err-name.was)))

pub returns : goal.returns
returns c =
    sym (joined_fields c.args.line.now _ _ _ _ _ _ _ _ _ _ _ c.in_ok-domain.ensures c.in_ok-below.ensures
    c.in_ok-path.ensures c.in_ok-secure.ensures c.in_ok-expires.ensures
    (sym c.last_two.ensures ∙ ap (option_map _) c.in_ok-name.was))
