use Rattle.std.proofs.Common.{List, take}
use Rattle.std.specs.Prelude.{map}
use Rattle.cookie_text.specs.Record.{Record}
use Rattle.cookie_client.specs.Jar.{Holds}
use Rattle.cookie_client.specs.Reading.{GiveBy}
use Rattle.cookie_client.proofs.reading.read_all.Given as goal

abbrev pub invariant-loop-piece : goal.invariant-loop-piece
invariant-loop-piece l = (cookies : List Record)
    × GiveBy l.shown (map (λ x. x.now) (take l.piece-index l.pieces)) cookies
    × Holds cookies l.jar
