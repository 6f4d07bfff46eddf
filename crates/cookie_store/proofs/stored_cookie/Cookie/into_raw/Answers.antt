use Rattle.std.proofs.Common.{◌∙◌}
use Rattle.cookie_store.proofs.StrippedLemmas.{stripped}
use Rattle.cookie_store.specs.StoredCookie.{stored_of}
use Rattle.cookie_store.proofs.stored_cookie.Cookie.into_raw.Goals as goal

pub returns : goal.returns
returns c =
    let name = c.in_ok-name.ensures.ok ∙ c.name.ensures in
    let value = c.in_ok-value.ensures.ok ∙ c.value.ensures in
    stripped (stored_of c.args.self) c.new_owned-stripped.result c.put_end.new.raw_cookie
    c.put_path.new.raw_cookie c.put_domain.new.raw_cookie
    (rw (name, value) at c.new_owned-stripped.ensures) c.put_end.ensures c.in_ok-put_path.ensures
    c.put_domain.ensures
