use Rattle.std.proofs.Common.{◌≡◌, ℕ, List, ◌++◌, take, sym, ap, ◌∙◌, arith}
use Rattle.cookie.specs.Base64Steps.{sextets}
use Rattle.cookie.proofs.PrintingLemmas.{listing, listing_is, packed_bytes, packed_bytes_are, lane_fits}
use Rattle.cookie.proofs.secure.printing.sextets.Goals as goal

pub returns : goal.returns
returns c =
    let v : List ℕ = c.args.bytes in
    let whole : v ≡ listing 0 16 v = sym (listing_is 16 0 v (omega (arith, c.fits-bytes.0))) in
    ap (λ (l : List ℕ). packed_bytes (l ++ l)) whole
    ∙ packed_bytes_are v (λ k. lane_fits v k c.fits-bytes.1)
    ∙ ap (λ (l : List ℕ). sextets (take 12 l)) (sym whole)
