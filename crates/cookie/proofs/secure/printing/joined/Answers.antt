use Rattle.std.proofs.Common.{◌≡◌, ℕ, List, ◌++◌, [], ◌∷◌, take, length, replicate, sym, ap, ◌∙◌, arith}
use Rattle.std.proofs.lemmas.List.{length-take-le}
use borrow.Rule.Slice.PartMut.{put_mid}
use Rattle.cookie.proofs.PrintingLemmas.{listing, listing_is}
use Rattle.cookie.proofs.secure.printing.joined.Goals as goal

-- a text of two registers and what was there
abbrev two : List ℕ → List ℕ → List ℕ
two a b = put_mid 16 16 (a ++ replicate 28 61) b

whole : (v w : List ℕ) → length v ≡ 16 → w ≡ v → w ≡ listing 0 16 v
whole v w long e = e ∙ sym (listing_is 16 0 v (omega arith))

length-two : (a b v w : List ℕ) → length v ≡ 16 → length w ≡ 16 → a ≡ v → b ≡ w → length (two a b) ≡ 44
length-two a b v w lv lw ea eb = ap length (λ i. two (whole v a lv ea i) (whole w b lw eb i))

pub slice_bounds-text-end-3 : goal.slice_bounds-text-end-3
slice_bounds-text-end-3 c = omega (
  arith,
  length-two _ _ c.args.front c.args.middle c.fits-front.0 c.fits-middle.0
      c.copy_from_slice.ensures.after c.copy_from_slice-2.ensures.after,
)

pub slice_bounds-copy_from_slice-end-5 : goal.slice_bounds-copy_from_slice-end-5
slice_bounds-copy_from_slice-end-5 c =
    let eleven : length (take 11 c.args.back) ≡ 11 = length-take-le 11 c.args.back (omega (arith, c.fits-back.0)) in
    omega (
      arith,
      eleven,
      length-two _ _ c.args.front c.args.middle c.fits-front.0 c.fits-middle.0
          c.copy_from_slice.ensures.after c.copy_from_slice-2.ensures.after,
    )

pub returns : goal.returns
returns c =
    let a = whole c.args.front _ c.fits-front.0 c.copy_from_slice.ensures.after in
    let b = whole c.args.middle _ c.fits-middle.0 c.copy_from_slice-2.ensures.after in
    let back : c.args.back ≡ listing 0 16 c.args.back =
    sym (listing_is 16 0 c.args.back (omega (arith, c.fits-back.0))) in
    let d = c.copy_from_slice-3.ensures.after ∙ ap (take 11) back in
    (λ i. put_mid 32 11 (two (a i) (b i)) (d i))
    ∙ sym (λ i. whole c.args.front c.args.front c.fits-front.0 (λ j. c.args.front) i
    ++ (whole c.args.middle c.args.middle c.fits-middle.0 (λ j. c.args.middle) i ++ (take 11 (back i) ++ 61 ∷ [])))
