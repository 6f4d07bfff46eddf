use Rattle.std.proofs.Common.{◌≡◌, ◌∙◌, ◌<◌, ◌≤◌, ℕ, ℤ, List, [], ◌∷◌, length, get_or, arith, subst, sym, Ok, Some}
use Rattle.std.specs.Prelude.{map, string_bytes}
use Rattle.jiff.specs.Words.{civil_nanos}
use Rattle.cookie_run.specs.Program.{asked_of, asked_by}
use Rattle.cookie_run.specs.ScriptLine.{seed_of}
use Rattle.cookie_client.specs.Moment.{moment_of}
use Rattle.cookie_run.proofs.program.arguments.read.Goals as goal

four_read : {A : Type 0} (view : A → List ℕ) (words : List A) (w x y z : A) (seed : List ℕ) (at : ℤ)
    → 4 ≤ length words → length words < 5
    → w ≡ get_or words 0 w → x ≡ get_or words 1 x → y ≡ get_or words 2 y → z ≡ get_or words 3 z
    → seed_of (view x) ≡ Some seed → moment_of (view z) ≡ Some at
    → asked_of (map view words)
    ≡ Ok (record { suffix_file = view w; seed = seed; store_file = view y; at = at })
four_read view [] w x y z seed at low high iw ix iy iz s m = absurd (omega (arith, low))
four_read view (a ∷ []) w x y z seed at low high iw ix iy iz s m = absurd (omega (arith, low))
four_read view (a ∷ b ∷ []) w x y z seed at low high iw ix iy iz s m = absurd (omega (arith, low))
four_read view (a ∷ b ∷ c ∷ []) w x y z seed at low high iw ix iy iz s m = absurd (omega (arith, low))
four_read view (a ∷ b ∷ c ∷ d ∷ []) w x y z seed at low high iw ix iy iz s m =
    (λ i. asked_of (view (sym iw i) ∷ view (sym ix i) ∷ view (sym iy i) ∷ view (sym iz i) ∷ []))
    ∙ (λ i. asked_by (view w) (s i) (view y) (m i))
four_read view (a ∷ b ∷ c ∷ d ∷ e ∷ more) w x y z seed at low high iw ix iy iz s m = absurd (omega (arith, high))

pub returns : goal.returns
returns c =
    let seed = c.in-Some.seed in
    let at = civil_nanos c.in-Some-moment_of.at.date in
    four_read string_bytes c.args.words.now c.suffix_file-item.result c.seed-item.result c.store_file-item.result
    c.moment-item.result seed at c.in-len4.len_at_least c.in-len4.len_below c.suffix_file-item.is c.seed-item.is
    c.store_file-item.is c.moment-item.is
    (subst (λ text. seed_of text ≡ Some seed) c.as_str.ensures.value (sym c.in-Some.ensures))
    (subst (λ text. moment_of text ≡ Some at) c.as_str-2.ensures.value (sym c.in-Some-moment_of.ensures))
    ∙ (λ i. Ok (record {
      suffix_file = sym c.as_str-3.ensures.value i;
      seed = seed;
      store_file = sym c.as_str-4.ensures.value i;
      at = at;
    }))
