use Rattle.seal.proofs.SubkeyLemmas.{PutOff, number_at}
use Rattle.seal.proofs.hash_subkey.HashSubkey.times.Given as goal

abbrev pub invariant-loop-t : goal.invariant-loop-t
invariant-loop-t l = PutOff (number_at l.self l.x) l.t l.sum l.past
