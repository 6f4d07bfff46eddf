use Rattle.std.proofs.Common.{◌≡◌, ℕ, zero, suc, ◌+◌, ◌%◌, ◌^◌, ◌<◌, get_or, arith, refl, ap}
use Rattle.seal.proofs.CounterLemmas.{front_stays}
use Rattle.seal.proofs.gcm.next_counter.Goals as goal

positive : (n : ℕ) → (¬ (n ≡ 0)) → 0 < n
positive zero h = absurd (h refl)
positive (suc n) h = omega arith

pub returns-clause-front : goal.returns-clause-front
returns-clause-front c differs =
    front_stays c.args.block.now c.to_be_bytes.result ((c.from_be_bytes.result + 1) % 2 ^ 32) (omega arith) c.fits-block
    (ap (λ (m : ℕ). (m + 1) % 2 ^ 32) c.from_be_bytes.ensures) c.to_be_bytes.ensures
    (positive (get_or c.to_be_bytes.result 3 0) differs)
