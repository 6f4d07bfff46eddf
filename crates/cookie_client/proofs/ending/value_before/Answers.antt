use Rattle.std.proofs.Common.{◌≡◌, ◌∙◌, List, ℕ, sym, subst, refl}
use Rattle.jiff.specs.Words.{civil_nanos}
use Rattle.saved_text.specs.DateReading.{IsDateOf}
use Rattle.cookie_client.proofs.EndingTexts.{at_end, before_end, boundary_of, date_at_front, dated_of}
use Rattle.cookie_client.proofs.ending.value_before.Goals as goal
use Rattle.cookie_client.proofs.ending.value_before.Goals.{in_default-date_of-via-in-Some-date_of+else-lt}
use Rattle.cookie_client.proofs.ending.value_before.Goals.{in_default-date_of-via-in_default-date_of}

pub returns-in_default : goal.returns-in_default
returns-in_default c = λ value v.
    let cut = c.in_default.ensures.variant.1 (boundary_of c.args.dated.now value v.0 c.utf8.dated v.1).1 in
    cc cut

pub returns-in-Some-date_of : goal.returns-in-Some-date_of
returns-in-Some-date_of c = (
  civil_nanos c.in-Some-date_of.end,
  dated_of c.args.dated.now c.in-Some.stamp.now c.in-Some.value.now (civil_nanos c.in-Some-date_of.end) c.utf8.dated
      (c.in-Some.ensures.variant.0 refl) c.in-Some.ensures.front c.in-Some.ensures.back c.in-Some.ensures.front_len
      c.in-Some-date_of.ensures,
  before_end (civil_nanos c.args.now) (civil_nanos c.in-Some-date_of.end) (sym c.lt.ensures ∙ c.if-lt.true),
)

pub returns-in_default-date_of : goal.returns-in_default-date_of
returns-in_default-date_of c = λ value v.
    let date : IsDateOf c.in-Some.stamp.now v.0 =
    subst (λ (t : List ℕ). IsDateOf t v.0) (sym c.in-Some.ensures.front)
    (date_at_front c.args.dated.now value v.0 v.1) in
    elim c.in_default-date_of.branch [
      | in_default-date_of-via-in-Some-date_of+else-lt w ↦
          let same : v.0 ≡ civil_nanos w.in-Some-date_of.end =
          c.dates_are_of_one_moment.ensures c.in-Some.stamp.now v.0 (civil_nanos w.in-Some-date_of.end) date
          w.in-Some-date_of.ensures in
          at_end (civil_nanos c.args.now) v.0 (civil_nanos w.in-Some-date_of.end) (sym w.lt.ensures ∙ w.if-lt.false)
          same v.2
      | in_default-date_of-via-in_default-date_of w ↦ w.in_default-date_of.ensures v.0 date
    ]
