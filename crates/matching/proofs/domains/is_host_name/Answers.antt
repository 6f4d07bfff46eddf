use Rattle.std.proofs.Common.{sym, ◌∙◌}
use Rattle.matching.proofs.DomainLemmas.{is_err-ipv4, is_err-ipv6}
use Rattle.matching.proofs.domains.is_host_name.Goals as goal

pub returns-then-is_err : goal.returns-then-is_err
returns-then-is_err c =
    let ipv4 = is_err-ipv4 c.args.host.now c.parse.result c.parse.ensures.value in
    let ipv6 = is_err-ipv6 c.args.host.now c.parse-then-is_err.result c.parse-then-is_err.ensures.value in
    let four = sym c.is_err.ensures.value ∙ c.if-is_err.true in
    let six = c.is_err-then-is_err.ensures.value in
    (λ t. record { no_ipv4 = ipv4.0 four; no_ipv6 = ipv6.0 (sym six ∙ t) }, λ h. six ∙ ipv6.1 h.no_ipv6)
