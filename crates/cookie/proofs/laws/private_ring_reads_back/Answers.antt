use Rattle.std.proofs.Common.{◌≡◌, ◌∙◌, List, ℕ, ap, sym, length, subst}
use Rattle.std.specs.Str.{IsUtf8}
use Rattle.cookie.specs.Key.{encryption_half}
use Rattle.cookie.proofs.RingLawLemmas.{private_back_under}
use Rattle.cookie.proofs.laws.private_ring_reads_back.Goals as goal

pub returns : goal.returns
returns c =
    let half = ap length (sym c.encryption.ensures.half) ∙ c.encryption.ensures.len in
    private_back_under c.args.ring.now c.args.cookie.now c.lengths.ensures.tag c.opening_is_the_converse.ensures.only
    (subst (λ (k : List ℕ). length (encryption_half k) ≡ 32) c.current.ensures half)
    (subst IsUtf8 c.value.ensures c.value.utf8)
