use Rattle.std.proofs.Common.{map}
use Rattle.cookie_store.specs.Given.{lent_row}
use Rattle.cookie_store.proofs.store.CookieStore.get_request_values.Goals as goal

pub returns : goal.returns
returns c = (map lent_row c.in_ok-matches.field-0.items, c.in_ok-matches.ensures, c.new.ensures)
