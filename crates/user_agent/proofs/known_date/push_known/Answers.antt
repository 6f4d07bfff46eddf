use Rattle.std.proofs.Common.{◌∙◌, ◌++◌, ap, inl, refl, string_bytes}
use Rattle.user_agent.specs.KnownDates.{dated_piece}
use Rattle.user_agent.proofs.known_date.push_known.Goals as goal

pub returns-in_ok-push_str-in-Some : goal.returns-in_ok-push_str-in-Some
returns-in_ok-push_str-in-Some c =
    let m = c.in-Some.moment in
    let loose = rw c.in-Some.is at c.in_ok-moment.ensures in (
      dated_piece m,
      inl (m, loose, refl),
      c.in_ok-push_str-in-Some.ensures.bytes
          ∙ ap (λ t. string_bytes c.args.known.now ++ t) (c.as_str.ensures.value ∙ c.in_ok-dated-in-Some.ensures),
    )
