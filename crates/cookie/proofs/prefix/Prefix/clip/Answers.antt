use Rattle.std.proofs.Common.{◌≡◌, ◌∙◌, List, ℕ, ◌++◌, ap, sym}
use Rattle.std.proofs.lemmas.List.{append_cancel_left}
use Rattle.cookie_text.specs.Setting.{with_name}
use Rattle.cookie.proofs.prefix.Prefix.clip.Goals as goal

pub returns-clause-clipped : goal.returns-clause-clipped
returns-clause-clipped g c =
    let text : List ℕ = g.Self.Prefix.text in
    let name : List ℕ = c.in-Some.name.now in
    let split : c.args.cookie.cookie.name ≡ text ++ name = sym c.name.ensures ∙ c.in-Some.ensures
    ∙ ap (λ (t : List ℕ). t ++ name) c.text.ensures in
    record {
      has = λ rest e. c.set_name_owned.ensures
          ∙ ap (with_name c.args.cookie) (c.in_ok-name.ensures.ok ∙ append_cancel_left text name rest (sym split ∙ e));
      lacks = λ none. absurd (none name split);
    }
