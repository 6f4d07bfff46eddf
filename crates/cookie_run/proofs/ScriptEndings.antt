-- What stands against a value until a moment, by the moment that a script names.
use Rattle.std.proofs.Common.{◌≡◌, ◌∙◌, ℤ, pos, ◌≤ℤ◌, ◌<ℤ◌, true, false, List, ℕ, [], ◌∷◌, Option, Some, None, ap, sym}
use Rattle.std.proofs.Common.{subst, refl, arith, ⊎_elim}
use Rattle.std.specs.Prelude.{int_lt, if◌then◌else◌}
use Rattle.std.specs.Int.{int_min}
use Rattle.std.proofs.lemmas.Bool.{cases_Bool}
use Rattle.std.proofs.lemmas.Int.{clamps, ints}
use Rattle.jiff.specs.Types.{DateTime}
use Rattle.jiff.specs.Words.{civil_nanos}
use Rattle.jiff_core.proofs.SignedLemmas.{signed_arith}
use Rattle.jiff_zoned.proofs.SameLemmas.{same_datetime}
use Rattle.cookie_text.specs.Normal.{is_short_year}
use Rattle.cookie_text.specs.Record.{Seen}
use Rattle.cookie_text.specs.Setting.{IsKept, latest_end}
use Rattle.cookie_text.specs.declared.expiration.Expiration.{Expiration}
use Rattle.cookie_text.specs.declared.expiration.Expiration.TheVariants.{DateTime as At, Session}
use Rattle.cookie_run.specs.RingPlay.{SetUntil}
use Rattle.cookie_client.specs.RingSession.{EndsAt, is_ending_too_long, until_refusal}
use Rattle.cookie_run.specs.ScriptText.{command_refusal}
use Rattle.cookie_client.specs.Ways.{refusal_of, then_long}
use Rattle.cookie_client.specs.declared.ending.EndingWay.{EndingWay}
use Rattle.cookie_client.specs.declared.outcome.SessionError.TheVariants.{Year}
use Rattle.cookie_run.proofs.Removals.{early_year}

-- a moment of 1970 or later is of no short year
late : (d : DateTime) → pos 0 ≤ℤ civil_nanos d → int_lt d.date.year (pos 100) ≡ false
late d from =
    ⊎_elim
    (λ (s : int_lt d.date.year (pos 100) ≡ true).
    let year : d.date.year <ℤ pos 1970 = grind (arith, ints) in
    let early = early_year d year in absurd (omega (arith, signed_arith, early, from)))
    (λ (s : int_lt d.date.year (pos 100) ≡ false). s)
    (cases_Bool (int_lt d.date.year (pos 100)))

no_later : (n m : ℤ) → n ≤ℤ m → int_min n m ≡ n
no_later n m le = omega (arith, ints, clamps, le)

later : (n m : ℤ) → m <ℤ n → int_min n m ≡ m
later n m lt = omega (arith, ints, clamps, lt)

-- a moment that is kept as the latest one is of no short year, and any other is kept as it is
kept_short : (until : DateTime) (kept : Expiration) → IsKept (At until) kept
    → is_short_year (Some kept) ≡ is_short_year (Some (At until))
kept_short until Session is = absurd is
kept_short until (At d) is =
    ⊎_elim
    (λ (s : int_lt latest_end (civil_nanos until) ≡ true).
    let behind : latest_end <ℤ civil_nanos until = grind (arith, ints) in
    let last : civil_nanos d ≡ latest_end = is ∙ later (civil_nanos until) latest_end behind in
    late d (subst (λ n. pos 0 ≤ℤ n) (sym last) (omega (arith, signed_arith)))
    ∙ sym (late until (omega (arith, signed_arith, behind))))
    (λ (s : int_lt latest_end (civil_nanos until) ≡ false).
    let before : civil_nanos until ≤ℤ latest_end = grind (arith, ints) in
    ap (λ (x : DateTime). int_lt x.date.year (pos 100))
    (same_datetime d until (is ∙ no_later (civil_nanos until) latest_end before)))
    (cases_Bool (int_lt latest_end (civil_nanos until)))

same_refusal : (name : List ℕ) (a b : Option Expiration) → is_short_year a ≡ is_short_year b
    → refusal_of name a ≡ refusal_of name b
same_refusal [] a b e = refl
same_refusal (c ∷ cs) a b e = ap (λ t. if t then Some Year else None) e

-- what stands against the cookie that is set is what stands against the one that the line speaks of
pub ending_refusal : (way : EndingWay) (c ending : Seen) (until : DateTime) → EndsAt c until ending
    → until_refusal way ending.cookie ≡ command_refusal (SetUntil way c until)
ending_refusal way c ending until ends =
    ap (λ (s : Seen). until_refusal way s.cookie) ends.2
    ∙ ap (λ o. then_long o (is_ending_too_long way c.cookie.name c.cookie.value))
    (same_refusal c.cookie.name (Some ends.0) (Some (At until)) (kept_short until ends.0 ends.1))
