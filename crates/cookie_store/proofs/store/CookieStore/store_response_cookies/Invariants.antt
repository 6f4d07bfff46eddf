use Rattle.std.proofs.Common.{◌≡◌}
use Rattle.jiff.specs.Words.{civil_nanos}
use Rattle.cookie_store.specs.Insertion.{ReceivesAll}
use Rattle.cookie_store.proofs.store.CookieStore.store_response_cookies.Given as goal

-- what was taken so far was received
abbrev pub invariant-loop-cookie : goal.invariant-loop-cookie
invariant-loop-cookie g l = record {
  received : ReceivesAll l.fn.self.suffixes l.fn.self.rows l.request_url (civil_nanos l.now) l.yielded l.self.rows;
  list : l.self.suffixes ≡ l.fn.self.suffixes;
}
