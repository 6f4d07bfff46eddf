use Rattle.std.proofs.Common.{◌≡◌, ◌∙◌, false, None, option_map, sym, ap, refl}
use Rattle.cookies_txt.specs.Reading.{field_texts, is_passed_over, parts, read_line, unmarked}
use Rattle.cookies_txt.specs.Steps.{texts_of}
use Rattle.cookies_txt.proofs.line.Line.parse.Goals as goal

pub returns-in-None-clause-said : goal.returns-in-None-clause-said
unfolding read_line
returns-in-None-clause-said c =
    let kept : is_passed_over c.args.line.now ≡ false =
    sym (c.is_passed_over.ensures ∙ ap is_passed_over c.as_bytes.ensures.value) ∙ c.if-is_passed_over.false in
    let none : field_texts (parts (unmarked c.args.line.now)) ≡ None =
    ap (λ t. field_texts (parts t)) (sym c.unmarked-http_only.ensures.rest)
    ∙ (sym c.of.ensures ∙ ap (option_map texts_of) c.in-None.is) in
    rw (kept, none) refl
