use Rattle.std.proofs.Common.{◌≡◌, map, length}
use Rattle.std.specs.Vec.Iter.{into_iter_items, into_iter_len}
use Rattle.response_heads.specs.Read.{head_text}
use Rattle.response_heads.specs.Visits.{visit_text}
use Rattle.response_heads.proofs.VisitLemmas.{WalksOn}
use Rattle.response_heads.proofs.redirects.walk.Given as goal

abbrev pub invariant-loop-head : goal.invariant-loop-head
invariant-loop-head l = record {
  walks : WalksOn l.fn.url (map head_text l.fn.heads.items) l.fn.stop l.here l.is_behind_success
      (map head_text (into_iter_items l.head-iterator)) (map visit_text l.visits.items);
  left : l.left ≡ length (into_iter_items l.head-iterator);
  counted : length (into_iter_items l.head-iterator) ≡ into_iter_len l.head-iterator;
}
