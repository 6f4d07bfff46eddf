-- The lines of rotations and of values that end, by their fields.
use Rattle.std.proofs.Common.{◌≡◌, ◌<◌, ◌≤◌, List, ℕ, [], ◌∷◌, length, get_or, arith, refl, Option, Some, Ok, Err}
use Rattle.std.specs.Prelude.{map}
use denote.Ref.{Bor}
use Rattle.jiff.specs.Types.{DateTime}
use Rattle.cookie.specs.Key.{derived}
use Rattle.cookie_run.specs.ScriptLine.{Rotates, ending_line, ending_way_of, for_way, read_rotate, read_set_until}
use Rattle.cookie_run.specs.ScriptLine.{rotation, seed_of, unless_dash}
use Rattle.cookie_client.specs.Moment.{date_of, moment_date}
use Rattle.cookie_client.specs.declared.ending.EndingWay.{EndingWay}
use Rattle.cookie_run.specs.declared.script.cause.Cause.TheVariants.{Fields}

-- `rotate` with its three fields
pub rotate_read : (fields : List (Bor (List ℕ))) (d e f : Bor (List ℕ)) (seed : List ℕ) (end : Option DateTime)
    (at : DateTime) → 3 ≤ length fields → length fields < 4 → seed_of (get_or fields 0 d).now ≡ Some seed
    → unless_dash date_of (get_or fields 2 f).now ≡ Some end → moment_date (get_or fields 1 e).now ≡ Some at
    → read_rotate (map (λ field. field.now) fields) ≡ Ok (Rotates (derived seed) at end)
rotate_read [] d e f seed end at low high s k m = absurd (omega (arith, low))
rotate_read (p ∷ []) d e f seed end at low high s k m = absurd (omega (arith, low))
rotate_read (p ∷ q ∷ []) d e f seed end at low high s k m = absurd (omega (arith, low))
rotate_read (p ∷ q ∷ r ∷ []) d e f seed end at low high s k m = λ i. rotation (s i) (k i) (m i)
rotate_read (p ∷ q ∷ r ∷ t ∷ more) d e f seed end at low high s k m = absurd (omega (arith, high))

-- `set-until` with its four fields, and with another number of them
pub until_read : (fields : List (Bor (List ℕ))) (d e f g : Bor (List ℕ)) (way : EndingWay) (until : DateTime)
    → 4 ≤ length fields → length fields < 5 → ending_way_of (get_or fields 0 d).now ≡ Some way
    → date_of (get_or fields 3 g).now ≡ Some until
    → read_set_until (map (λ field. field.now) fields)
    ≡ ending_line way (get_or fields 1 e).now (get_or fields 2 f).now (Some until)
until_read [] d e f g way until low high w x = absurd (omega (arith, low))
until_read (p ∷ []) d e f g way until low high w x = absurd (omega (arith, low))
until_read (p ∷ q ∷ []) d e f g way until low high w x = absurd (omega (arith, low))
until_read (p ∷ q ∷ r ∷ []) d e f g way until low high w x = absurd (omega (arith, low))
until_read (p ∷ q ∷ r ∷ s ∷ []) d e f g way until low high w x =
    λ i. for_way (w i) (λ v. ending_line v q.now r.now (x i))
until_read (p ∷ q ∷ r ∷ s ∷ t ∷ more) d e f g way until low high w x = absurd (omega (arith, high))

pub until_few : (fields : List (Bor (List ℕ))) → length fields < 4
    → read_set_until (map (λ field. field.now) fields) ≡ Err Fields
until_few [] few = refl
until_few (p ∷ []) few = refl
until_few (p ∷ q ∷ []) few = refl
until_few (p ∷ q ∷ r ∷ []) few = refl
until_few (p ∷ q ∷ r ∷ s ∷ more) few = absurd (omega (arith, few))

pub until_many : (fields : List (Bor (List ℕ))) → 5 ≤ length fields
    → read_set_until (map (λ field. field.now) fields) ≡ Err Fields
until_many [] many = absurd (omega (arith, many))
until_many (p ∷ []) many = absurd (omega (arith, many))
until_many (p ∷ q ∷ []) many = absurd (omega (arith, many))
until_many (p ∷ q ∷ r ∷ []) many = absurd (omega (arith, many))
until_many (p ∷ q ∷ r ∷ s ∷ []) many = absurd (omega (arith, many))
until_many (p ∷ q ∷ r ∷ s ∷ t ∷ more) many = refl
