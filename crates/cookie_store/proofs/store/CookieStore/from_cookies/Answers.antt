use Rattle.std.proofs.Common.{◌++◌, ◌∷◌, []}
use Rattle.jiff.specs.Words.{civil_nanos}
use Rattle.cookie_store.proofs.LoadLemmas.{gives_more, loads_more}
use Rattle.cookie_store.proofs.store.CookieStore.from_cookies.Goals as goal

pub loop-cookie-preserved : goal.loop-cookie-preserved
loop-cookie-preserved g c =
    let (cookies, given, rows) = c.loop-cookie.invariant in
    let cookie = c.in_ok-cookie.field-0 in (
      cookies ++ cookie ∷ [],
      gives_more cookies cookie c.loop-cookie.yielded c.in-Some.cookie given c.in_ok-cookie.was,
      loads_more c.args.include_expired (civil_nanos c.args.now) cookies cookie c.loop-cookie.rows c.put_loaded.new.rows
          rows c.in_ok-put_loaded.ensures,
    )
