use Rattle.std.proofs.Common.{◌≡◌, rules, subst, sym}
use Rattle.std.specs.Prelude.{string_bytes}
use Rattle.url.specs.Parts.{serialize}
use Rattle.plain_url.specs.Plain.{HasNoUser, IsPlain, IsWeb}
use Rattle.plain_url.proofs.InsteadLemmas.{own_text_is_plain}
use Rattle.plain_url.proofs.instead.plain_at.Goals as goal

pub returns-in_ok-from_str-2-clause-plain : goal.returns-in_ok-from_str-2-clause-plain
returns-in_ok-from_str-2-clause-plain c = λ parsed.
    let url = c.args.url.now in
    let text : string_bytes c.in_ok-from_str-2.field-0 ≡ serialize url = search rules in
    let web : IsWeb url = search rules in
    let user : HasNoUser url = search rules in
    subst IsPlain (sym text) (own_text_is_plain url c.as_str.ensures.valid web user)
