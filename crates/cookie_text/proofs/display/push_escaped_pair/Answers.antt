use Rattle.std.proofs.Common.{◌++◌, ◌∷◌, [], ap, ◌∙◌, append_assoc, string_bytes}
use Rattle.cookie_text.specs.Pieces.{equals}
use Rattle.cookie_text.specs.Printing.{escaped}
use Rattle.cookie_text.proofs.EscapeLemmas.{encoded_by_profile}
use Rattle.cookie_text.proofs.display.push_escaped_pair.Goals as goal

pub returns : goal.returns
returns c =
    let r = c.args.cookie.now.cookie in
    let old = string_bytes c.args.text.now in
    let name = c.utf8_percent_encode.ensures.text ∙ encoded_by_profile c.name.result.now ∙ ap escaped c.name.ensures in
    let said = c.utf8_percent_encode-2.ensures.text ∙ encoded_by_profile c.value.result.now in
    let value = said ∙ ap escaped c.value.ensures in
    c.in_ok-append_to-2.ensures.ok
    ∙ ap (λ t. string_bytes c.push_str.new.self ++ t) value
    ∙ ap (λ t. t ++ escaped r.value) (c.in_ok-push_str.ensures.bytes
    ∙ ap (λ t. t ++ equals ∷ []) (c.in_ok-append_to.ensures.ok ∙ ap (λ t. old ++ t) name))
    ∙ append_assoc (old ++ escaped r.name) (equals ∷ []) (escaped r.value)
    ∙ append_assoc old (escaped r.name) (equals ∷ escaped r.value)
