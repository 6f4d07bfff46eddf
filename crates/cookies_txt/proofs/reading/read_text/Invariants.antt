use Rattle.std.proofs.Common.{◌≡◌, length, map}
use Rattle.cookie_store.specs.StoredCookie.{stored_of}
use Rattle.cookies_txt.proofs.ReadLemmas.{ReadsSoFar}
use Rattle.cookies_txt.proofs.reading.read_text.Given as goal

abbrev pub invariant-loop-line : goal.invariant-loop-line
invariant-loop-line l = record {
  counted : l.number ≡ length l.yielded;
  reads : ReadsSoFar (map (λ line. line.now) l.yielded) (map stored_of l.cookies.items);
}
