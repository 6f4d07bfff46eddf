use Rattle.std.proofs.Common.{sym, ◌∙◌}
use Rattle.cookie_text.proofs.SameLemmas.{same_cookie-Decides}
use Rattle.cookie_text.proofs.compare.CookiePartialEq.eq.Goals as goal

pub returns-clause-compared : goal.returns-clause-compared
returns-clause-compared c =
    let d = same_cookie-Decides c.args.self.now c.args.other.now in
    (λ e. d.0 (sym c.is_same.ensures ∙ e), λ e. c.is_same.ensures ∙ d.1 e)
