use Rattle.cookie_store.proofs.SavedLemmas.{texts_read}
use Rattle.cookie_store.proofs.store.CookieStore.from_value.Goals as goal

pub store_of_rows-requires : goal.store_of_rows-requires
store_of_rows-requires c =
    let (all, is, shown) = c.in-Ok.ensures.ok in
    texts_read all c.in-Ok.rows.items shown
