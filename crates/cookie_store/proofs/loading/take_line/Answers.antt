use Rattle.std.proofs.Common.{rules, ◌≡◌, ◌∷◌, [], refl, subst}
use Rattle.jiff.specs.Words.{civil_nanos}
use Rattle.cookie_store.specs.Placing.{chosen, put_all}
use Rattle.cookie_store.proofs.loading.take_line.Goals as goal

pub returns-clause-ok : goal.returns-clause-ok
returns-clause-ok g c =
    let cookie = c.in_ok-cookie.cookie in (
      g.C.StoreCookie.shows cookie,
      search rules,
      (cookie, refl, record { shown = c.in-Ok.line; shows = search rules; called = c.in_ok-cookie.ensures }),
      subst (λ row. c.put_loaded.new.rows
          ≡ put_all (chosen c.args.with_expired (civil_nanos c.args.now) (row ∷ [])) c.args.rows.now)
          c.into_store.ensures
          c.in_ok-put_loaded.ensures,
    )
