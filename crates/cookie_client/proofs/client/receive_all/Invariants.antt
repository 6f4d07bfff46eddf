use Rattle.std.proofs.Common.{◌≡◌, ◌≤◌, take, length, vec_len}
use Rattle.std.specs.Prelude.{map, vec_capacity}
use Rattle.jiff.specs.Words.{civil_nanos}
use Rattle.cookie_client.specs.Accept.{AcceptsAll}
use Rattle.cookie_client.proofs.client.receive_all.Given as goal

abbrev pub invariant-loop-i : goal.invariant-loop-i
invariant-loop-i l = record {
  all : AcceptsAll l.fn.store.suffixes l.fn.store.rows l.url (civil_nanos l.now)
      (take l.i (map (λ line. line.now) l.lines)) l.ends.items l.store.rows;
  list : l.store.suffixes ≡ l.fn.store.suffixes;
  count : vec_len l.ends ≡ l.i;
  room : length l.lines ≤ vec_capacity l.ends;
}
