use Rattle.std.proofs.Common.{◌≡◌, ℕ, List, ◌++◌, [], ◌∷◌, take, drop, sym, ap, ◌∙◌, arith}
use Rattle.cookie.specs.Base64.{base64}
use Rattle.cookie.proofs.PrintingLemmas.{listing, listing_is, by_registers, by_registers_is, symbols_of, last_eight}
use Rattle.cookie.proofs.secure.printing.code_text.Goals as goal

pub returns : goal.returns
returns c =
    let v : List ℕ = c.args.code.now in
    let whole : v ≡ listing 0 32 v = sym (listing_is 32 0 v (omega (arith, c.told-code))) in
    let front : c.symbols_of-front.result ≡ symbols_of (take 16 v) = c.symbols_of-front.ensures in
    let middle : c.symbols_of-middle.result ≡ symbols_of (take 16 (take 20 (drop 12 v))) =
    c.symbols_of-middle.ensures in
    let back : c.symbols_of.result ≡ symbols_of (last_eight v) = c.symbols_of.ensures in
    let parts : c.joined.result ≡ by_registers v = c.joined.ensures
    ∙ (λ i. front i ++ (middle i ++ (take 11 (back i) ++ 61 ∷ []))) in
    parts ∙ ap by_registers whole ∙ by_registers_is v ∙ ap base64 (sym whole)
