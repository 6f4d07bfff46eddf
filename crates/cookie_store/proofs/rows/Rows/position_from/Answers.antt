use Rattle.std.proofs.Common.{map, subst}
use Rattle.cookie_store.specs.Indexed.{StandsAt, places_of}
use Rattle.cookie_store.specs.Rows.{key}
use Rattle.cookie_store.specs.StoredCookie.{stored_in}
use Rattle.cookie_store.proofs.IndexedLemmas.{fits, is_index, key_stands}
use Rattle.cookie_store.proofs.rows.Rows.position_from.Goals as goal

pub position-requires : goal.position-requires
position-requires g c =
    let v = c.self.inside.cookies in
    is_index (map stored_in v.items) c.self.inside.index c.self.invariant (fits stored_in v)

pub returns-clause-at : goal.returns-clause-at
returns-clause-at g c =
    let k = key c.args.key.0.now c.args.key.1.now c.args.key.2.now in
    let rows = map stored_in c.self.inside.cookies.items in
    subst (λ r. StandsAt k r c.position.result) c.self.view_is
    (key_stands k rows c.position.result (c.position.ensures.at (places_of rows) c.self.invariant.agrees))
