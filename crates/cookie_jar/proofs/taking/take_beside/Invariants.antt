use Rattle.std.proofs.Common.{◌≡◌, ◌≤◌, take, length, vec_len}
use Rattle.std.specs.Prelude.{map, vec_capacity}
use Rattle.jiff.specs.Words.{civil_nanos}
use Rattle.user_agent.specs.SecurePlaces.{ArePlacesOf}
use Rattle.cookie_jar.specs.Taking.{TakesAll}
use Rattle.cookie_jar.proofs.taking.take_beside.Given as goal

abbrev pub invariant-loop-i : goal.invariant-loop-i
invariant-loop-i l = record {
  all : TakesAll l.form l.rules l.across l.fn.client.suffixes l.fn.client.rows l.url (civil_nanos l.now)
      (take l.i (map (λ line. line.now) l.lines)) l.ends.items l.client.rows;
  places : ArePlacesOf l.secure l.rules l.url (civil_nanos l.now) l.client.rows;
  list : l.client.suffixes ≡ l.fn.client.suffixes;
  count : vec_len l.ends ≡ l.i;
  room : length l.lines ≤ vec_capacity l.ends;
}
