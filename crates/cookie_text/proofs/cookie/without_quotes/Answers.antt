use Rattle.std.proofs.Common.{[], ◌∷◌, ◌++◌, inr, refl, lit<}
use Rattle.std.proofs.lemmas.Str.Pattern.{strip_prefix_char, strip_suffix_char}
use Rattle.cookie_text.proofs.PieceLemmas.{no_last_quote}
use Rattle.cookie_text.proofs.cookie.without_quotes.Goals as goal

pub returns-in_default : goal.returns-in_default
returns-in_default c =
    let none = rw c.in_default.is at (strip_prefix_char 34 c.args.text.now c.strip_prefix.result
    c.strip_prefix.ensures.cases (lit< tt)) in
    inr ((λ middle e. none (middle ++ 34 ∷ []) e), refl)

pub returns-in-None : goal.returns-in-None
returns-in-None c =
    let first = rw c.in-Some.is at (strip_prefix_char 34 c.args.text.now c.strip_prefix.result
    c.strip_prefix.ensures.cases (lit< tt)) in
    let none = rw c.in-None.is at (strip_suffix_char 34 c.in-Some.rest.now c.strip_suffix.result
    c.strip_suffix.ensures.cases (lit< tt)) in
    inr (no_last_quote c.args.text.now c.in-Some.rest.now first none, refl)
