use Rattle.std.proofs.Common.{◌≡◌, rules, subst, sym, string_bytes}
use Rattle.plain_url.specs.Plain.{IsPlain, IsWeb, without_user}
use Rattle.plain_url.proofs.InsteadLemmas.{without_user_is_plain}
use Rattle.plain_url.proofs.instead.plain_text.Goals as goal

pub returns-clause-plain : goal.returns-clause-plain
returns-clause-plain c =
    let url = c.args.url.now in
    let text : string_bytes c.push_str-2.new.self ≡ without_user url = search rules in
    let web : IsWeb url = search rules in
    subst IsPlain (sym text) (without_user_is_plain url c.slice.ensures.valid web)
