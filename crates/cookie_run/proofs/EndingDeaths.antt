-- A cookie that is set until a moment dies with its whole second.
use Rattle.std.proofs.Common.{◌≡◌, ◌∙◌, ℤ, ◌≤ℤ◌, Some, None, ap, refl, arith}
use Rattle.std.specs.Int.{int_min}
use Rattle.std.proofs.lemmas.Int.{clamps, ints}
use Rattle.jiff.specs.Types.{DateTime}
use Rattle.jiff.specs.Words.{civil_nanos, civil_seconds}
use Rattle.jiff.proofs.Family.{civil_nanos-civil_seconds}
use Rattle.jiff.proofs.SpanFacts.{signed_arith}
use Rattle.jiff_zoned.proofs.SameLemmas.{same_datetime}
use Rattle.cookie_text.specs.Normal.{normal, whole_moment}
use Rattle.cookie_text.specs.Record.{Seen}
use Rattle.cookie_text.specs.Setting.{IsKept, latest_end, with_expires, with_max_age}
use Rattle.cookie_text.specs.declared.expiration.Expiration.{Expiration}
use Rattle.cookie_text.specs.declared.expiration.Expiration.TheVariants.{DateTime as At, Session}
use Rattle.saved_text.specs.PrintedDates.{without_fraction}
use Rattle.store_parts.specs.Expiry.{death}
use Rattle.cookie_run.specs.RingHeadline.{EndsAreDeaths}

same_seconds : (d : DateTime) → civil_seconds (whole_moment d) ≡ civil_seconds d
unfolding civil_seconds
same_seconds d = refl

second_of : (d : DateTime) → civil_nanos (whole_moment d) ≡ without_fraction d
second_of d =
    omega (arith, signed_arith, civil_nanos-civil_seconds (whole_moment d), civil_nanos-civil_seconds d, same_seconds d)

no_later : (n m : ℤ) → n ≤ℤ m → int_min n m ≡ n
no_later n m le = omega (arith, ints, clamps, le)

dies : (s : Seen) (until : DateTime) (at : ℤ) (k : Expiration) → IsKept (At until) k
    → civil_nanos until ≤ℤ latest_end
    → death (normal (with_expires (with_max_age s None) (Some k)).cookie) at ≡ Some (without_fraction until)
dies s until at (At d) is early =
    let same : d ≡ until = same_datetime d until (is ∙ no_later (civil_nanos until) latest_end early) in
    ap (λ (x : DateTime). Some (civil_nanos (whole_moment x))) same ∙ ap (λ n. Some n) (second_of until)
dies s until at Session is early = absurd is

pub ends_are_deaths : EndsAreDeaths
ends_are_deaths s ending until at ends early =
    ap (λ (x : Seen). death (normal x.cookie) at) ends.2 ∙ dies s until at ends.0 ends.1 early
