use Rattle.std.proofs.Common.{◌<◌, ℕ, List, take, get_or, sym, subst}
use Rattle.cookie.proofs.PrintingLemmas.{sextets-lt, take-lt, lane_fits}
use Rattle.cookie.proofs.secure.printing.symbols_of.Goals as goal

pub symbols-requires : goal.symbols-requires
symbols-requires c = λ k.
    let v : List ℕ = c.args.bytes in
    subst (λ (l : List ℕ). get_or l k 0 < 64) (sym c.sextets.ensures)
    (sextets-lt (take 12 v) (take-lt 12 v (λ j. lane_fits v j c.fits-bytes.1)) k)
