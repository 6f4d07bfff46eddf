use Rattle.std.proofs.Common.{◌∙◌, map, ap}
use Rattle.cookie_store.specs.Given.{received_of, lent_row}
use Rattle.cookie_store.proofs.StoreLemmas.{shown_all}
use Rattle.cookie_store.proofs.requests.RequestCookies.new.Goals as goal

pub returns : goal.returns
returns c =
    ap (map (λ d. received_of (lent_row d))) c.into_iter.ensures.rest ∙ shown_all received_of c.args.cookies.items
