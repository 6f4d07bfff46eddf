use Rattle.std.proofs.Common.{arith, refl, sym, ◌∙◌}
use Rattle.cookie_client.proofs.MomentText.{digits_at, date_is, part_few, part_below, shape_length}
use Rattle.cookie_client.proofs.moment.date_of.Goals as goal

pub number-year-requires-clause-digits : goal.number-year-requires-clause-digits
number-year-requires-clause-digits c = digits_at c.as_bytes-text.result.now 0 4 (sym c.if-not-has_shape.ensures)
    (refl, (refl, (refl, (refl, tt))))

pub number-day-requires-clause-digits : goal.number-day-requires-clause-digits
number-day-requires-clause-digits c = digits_at c.as_bytes-text.result.now 8 10 (sym c.if-not-has_shape.ensures)
    (refl, (refl, tt))

pub number-hour-requires-clause-digits : goal.number-hour-requires-clause-digits
number-hour-requires-clause-digits c = digits_at c.as_bytes-text.result.now 11 13 (sym c.if-not-has_shape.ensures)
    (refl, (refl, tt))

pub number-minute-requires-clause-digits : goal.number-minute-requires-clause-digits
number-minute-requires-clause-digits c = digits_at c.as_bytes-text.result.now 14 16 (sym c.if-not-has_shape.ensures)
    (refl, (refl, tt))

pub number-second-requires-clause-digits : goal.number-second-requires-clause-digits
number-second-requires-clause-digits c = digits_at c.as_bytes-text.result.now 17 19 (sym c.if-not-has_shape.ensures)
    (refl, (refl, tt))

pub number-year-requires-clause-few : goal.number-year-requires-clause-few
number-year-requires-clause-few c =
    part_few c.as_bytes-text.result.now 0 4 (sym c.if-not-has_shape.ensures) (omega arith)

pub number-month-requires-clause-few : goal.number-month-requires-clause-few
number-month-requires-clause-few c =
    part_few c.as_bytes-text.result.now 5 7 (sym c.if-not-has_shape.ensures) (omega arith)

pub number-day-requires-clause-few : goal.number-day-requires-clause-few
number-day-requires-clause-few c =
    part_few c.as_bytes-text.result.now 8 10 (sym c.if-not-has_shape.ensures) (omega arith)

pub number-hour-requires-clause-few : goal.number-hour-requires-clause-few
number-hour-requires-clause-few c =
    part_few c.as_bytes-text.result.now 11 13 (sym c.if-not-has_shape.ensures) (omega arith)

pub number-minute-requires-clause-few : goal.number-minute-requires-clause-few
number-minute-requires-clause-few c =
    part_few c.as_bytes-text.result.now 14 16 (sym c.if-not-has_shape.ensures) (omega arith)

pub number-second-requires-clause-few : goal.number-second-requires-clause-few
number-second-requires-clause-few c =
    part_few c.as_bytes-text.result.now 17 19 (sym c.if-not-has_shape.ensures) (omega arith)

pub date_at-requires-clause-year : goal.date_at-requires-clause-year
date_at-requires-clause-year c =
    part_below c.as_bytes-text.result.now 0 4 c.number-year.result (sym c.if-not-has_shape.ensures)
    c.number-year.ensures.bound

pub date_at-requires-clause-month : goal.date_at-requires-clause-month
date_at-requires-clause-month c =
    part_below c.as_bytes-text.result.now 5 7 c.number-month.result (sym c.if-not-has_shape.ensures)
    c.number-month.ensures.bound

pub date_at-requires-clause-day : goal.date_at-requires-clause-day
date_at-requires-clause-day c =
    part_below c.as_bytes-text.result.now 8 10 c.number-day.result (sym c.if-not-has_shape.ensures)
    c.number-day.ensures.bound

pub date_at-requires-clause-hour : goal.date_at-requires-clause-hour
date_at-requires-clause-hour c =
    part_below c.as_bytes-text.result.now 11 13 c.number-hour.result (sym c.if-not-has_shape.ensures)
    c.number-hour.ensures.bound

pub date_at-requires-clause-minute : goal.date_at-requires-clause-minute
date_at-requires-clause-minute c =
    part_below c.as_bytes-text.result.now 14 16 c.number-minute.result (sym c.if-not-has_shape.ensures)
    c.number-minute.ensures.bound

pub date_at-requires-clause-second : goal.date_at-requires-clause-second
date_at-requires-clause-second c =
    part_below c.as_bytes-text.result.now 17 19 c.number-second.result (sym c.if-not-has_shape.ensures)
    c.number-second.ensures.bound

pub slice_bounds-number-end : goal.slice_bounds-number-end
slice_bounds-number-end c = omega (arith, shape_length c.as_bytes-text.result.now (sym c.if-not-has_shape.ensures))

pub slice_bounds-number-end-2 : goal.slice_bounds-number-end-2
slice_bounds-number-end-2 c = omega (arith, shape_length c.as_bytes-text.result.now (sym c.if-not-has_shape.ensures))

pub slice_bounds-number-end-3 : goal.slice_bounds-number-end-3
slice_bounds-number-end-3 c = omega (arith, shape_length c.as_bytes-text.result.now (sym c.if-not-has_shape.ensures))

pub slice_bounds-number-end-4 : goal.slice_bounds-number-end-4
slice_bounds-number-end-4 c = omega (arith, shape_length c.as_bytes-text.result.now (sym c.if-not-has_shape.ensures))

pub slice_bounds-number-end-5 : goal.slice_bounds-number-end-5
slice_bounds-number-end-5 c = omega (arith, shape_length c.as_bytes-text.result.now (sym c.if-not-has_shape.ensures))

pub slice_bounds-number-end-6 : goal.slice_bounds-number-end-6
slice_bounds-number-end-6 c = omega (arith, shape_length c.as_bytes-text.result.now (sym c.if-not-has_shape.ensures))

pub returns-clause-date : goal.returns-clause-date
returns-clause-date c = c.date_at.ensures.date ∙ date_is c.as_bytes-text.result.now c.args.text.now c.number-year.result
    c.number-month.result c.number-day.result c.number-hour.result c.number-minute.result c.number-second.result
    c.as_bytes-text.ensures.value c.if-not-has_shape.ensures c.number-year.ensures.value c.number-month.ensures.value
    c.number-day.ensures.value c.number-hour.ensures.value c.number-minute.ensures.value c.number-second.ensures.value
