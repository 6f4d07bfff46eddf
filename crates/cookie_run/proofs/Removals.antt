-- A removal of 1971 or later ends in 1970 at the earliest.
use Rattle.std.proofs.Common.{◌≡◌, ℤ, pos, ◌*◌, ◌+ℤ◌, ◌≤ℤ◌, ◌<ℤ◌, true, false, sym, ap, ◌∙◌, subst, ⊎_elim, Some, arith}
use Rattle.std.specs.Prelude.{int_lt, neg_ℤ}
use Rattle.std.specs.Int.{int_min}
use Rattle.std.proofs.lemmas.Bool.{cases_Bool}
use Rattle.std.proofs.lemmas.Int.{ints}
use Rattle.jiff.specs.Types.{DateTime}
use Rattle.jiff_core.specs.Calendar.{days_from_civil}
use Rattle.jiff_core.specs.Date.{epoch_day}
use Rattle.jiff_core.specs.DateTime.{civil_nanos}
use Rattle.jiff_core.proofs.CalendarLemmas.{day_count-lt_year}
use Rattle.jiff_core.proofs.DateLemmas.{civil}
use Rattle.jiff_core.proofs.DateTimeLemmas.{civil_nanos-parts, civil_nanos_range, time_nanos_bound}
use Rattle.jiff_core.proofs.SignedLemmas.{signed_arith}
use Rattle.cookie_text.specs.declared.expiration.Expiration.{Expiration}
use Rattle.cookie_text.specs.declared.expiration.Expiration.TheVariants.{DateTime as At, Session}
use Rattle.cookie_text.specs.Normal.{is_short_year}
use Rattle.cookie_text.specs.Record.{Seen}
use Rattle.cookie_text.specs.Setting.{IsKept, MakesRemoval, stopped, last_moment, latest_end, one_year}
use Rattle.cookie_client.specs.Moment.{second_1971}

stopped_after : (n : ℤ) → pos 0 ≤ℤ n → n ≤ℤ last_moment → stopped n ≡ n
stopped_after n h g = grind (arith, ints)

pub early_year : (d : DateTime) → d.date.year <ℤ pos 1970 → civil_nanos d <ℤ pos 0
unfolding days_from_civil
early_year d h =
    let before = day_count-lt_year d.date.year d.date.month d.date.day (pos 1970) 1 1 (civil d.date) (omega arith) h in
    let day : epoch_day d.date <ℤ pos 0 = omega (arith, signed_arith, before) in
    omega (arith, signed_arith, civil_nanos-parts d, day, time_nanos_bound d.time)

least : (n : ℤ) → pos 0 ≤ℤ n → pos 0 ≤ℤ int_min n latest_end
least n h = grind (arith, ints)

not_short : (e : Expiration) (end : DateTime) → pos 0 ≤ℤ civil_nanos end → IsKept (At end) e
    → is_short_year (Some e) ≡ false
not_short Session end after kept = absurd kept
not_short (At d) end after kept =
    ⊎_elim
    (λ (s : int_lt d.date.year (pos 100) ≡ true).
    let year : d.date.year <ℤ pos 1970 = grind (arith, ints) in
    let early = early_year d year in
    let late : pos 0 ≤ℤ civil_nanos d = subst (λ n. pos 0 ≤ℤ n) (sym kept) (least (civil_nanos end) after) in
    absurd (omega (arith, signed_arith, early, late)))
    (λ (s : int_lt d.date.year (pos 100) ≡ false). s)
    (cases_Bool (int_lt d.date.year (pos 100)))

pub removal_late : (moment : DateTime) (c r : Seen) → pos (second_1971 * 1_000_000_000) ≤ℤ civil_nanos moment
    → MakesRemoval c moment r → is_short_year r.cookie.expires ≡ false
removal_late moment c r late makes =
    let n : ℤ = civil_nanos moment +ℤ neg_ℤ one_year in
    let from : pos 0 ≤ℤ n = omega (arith, signed_arith, late) in
    let until : n ≤ℤ last_moment = omega (arith, signed_arith, civil_nanos_range moment) in
    let is : civil_nanos makes.0 ≡ n = makes.1 ∙ stopped_after n from until in
    ap (λ (s : Seen). is_short_year s.cookie.expires) makes.2.2 ∙ not_short makes.2.0 makes.0
    (subst (λ x. pos 0 ≤ℤ x) (sym is) from) makes.2.1
