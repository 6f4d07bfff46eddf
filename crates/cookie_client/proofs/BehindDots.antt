-- Where a text stands behind a dot.
use Rattle.std.proofs.Common.{◌≡◌, ℕ, ◌+◌, ◌-◌, ◌<◌, ◌≤◌, List, ◌∷◌, ◌++◌, length, take, drop, get_or, sym, ap, ◌∙◌}
use Rattle.std.proofs.Common.{subst, arith}
use Rattle.std.proofs.Math.Seq.{drop-append-add, get_or-append_seam}
use Rattle.std.proofs.lemmas.List.{drop_more, length-append, take-append-drop}
use Rattle.std.proofs.lemmas.Str.{IsCharBoundary-after_ascii}
use Rattle.std.specs.Str.{IsCharBoundary, IsUtf8}
use Rattle.store_parts.specs.DomainMatch.{EndsAfterDot}

-- the text begins behind the dot
pub behind_dot : (host text : List ℕ) (at : ℕ) → EndsAfterDot host text → length text + at ≡ length host
    → (drop at host ≡ text) × (get_or host (at - 1) 0 ≡ 46)
behind_dot host text at (before, is) long =
    let all : length host ≡ length before + length (46 ∷ text) = ap length is ∙ length-append before (46 ∷ text) in
    let place : at ≡ length before + 1 = omega (arith, all, long) in
    let one : at - 1 ≡ length before = omega (arith, place) in (
      ap (drop at) is ∙ (ap (λ n. drop n (before ++ 46 ∷ text)) place ∙ drop-append-add before (46 ∷ text) 1),
      ap (λ xs. get_or xs (at - 1) 0) is
          ∙ (ap (λ n. get_or (before ++ 46 ∷ text) n 0) one ∙ get_or-append_seam before 46 text 0),
    )

-- it is shorter than the host
pub behind_shorter : (host text : List ℕ) → EndsAfterDot host text → length text + 1 ≤ length host
behind_shorter host text (before, is) =
    let all : length host ≡ length before + length (46 ∷ text) = ap length is ∙ length-append before (46 ∷ text) in
    omega (arith, all)

-- what begins behind a dot stands behind it
pub ends_behind : (host : List ℕ) (at : ℕ) → 0 < at → at ≤ length host → get_or host (at - 1) 0 ≡ 46
    → EndsAfterDot host (drop at host)
ends_behind host at some within byte =
    let one_more : at - 1 + 1 ≡ at = omega (arith, some) in
    let inside : at - 1 < length host = omega (arith, some, within) in (
      take (at - 1) host,
      sym (take-append-drop (at - 1) host)
          ∙ ap (λ r. take (at - 1) host ++ r)
          (drop_more host (at - 1) 0 inside
          ∙ (ap (λ b. b ∷ drop (at - 1 + 1) host) byte ∙ ap (λ n. 46 ∷ drop n host) one_more)),
    )

-- and the text may be cut there
pub cut_behind : (host : List ℕ) (at : ℕ) → IsUtf8 host → 0 < at → at ≤ length host → get_or host (at - 1) 0 ≡ 46
    → IsCharBoundary host at
cut_behind host at utf8 some within byte =
    let one_more : at - 1 + 1 ≡ at = omega (arith, some) in
    subst (IsCharBoundary host) one_more
    (IsCharBoundary-after_ascii host (at - 1) utf8 (omega (arith, some, within)) (omega (arith, byte)))
