use Rattle.std.proofs.Common.{◌≡◌, ◌<◌, arith, subst, ap, ◌∙◌, pos, unsigned_abs, w8, w16}
use Rattle.std.specs.Int.{IsInRange}
use Rattle.std.proofs.lemmas.Int.{to_z_pos}
use Rattle.jiff_core.specs.Calendar.{IsYear, days_in_month}
use Rattle.user_agent.proofs.dates.moment_of.Goals as goal

pub returns-in-Ok : goal.returns-in-Ok
returns-in-Ok c =
    let m = c.in-Ok.moment in
    let date = c.in-Ok.ensures.value.0 in
    let time = c.in-Ok.ensures.value.1 in
    let year : m.date.year ≡ pos c.args.year = date.0 ∙ to_z_pos w16 c.args.year (omega (arith, c.requires.date.0)) in
    let month : m.date.month ≡ c.args.month = ap unsigned_abs
    (date.1 ∙ to_z_pos w8 c.args.month (omega (arith, c.requires.date.1))) in
    let day : m.date.day ≡ c.args.day = ap unsigned_abs
    (date.2 ∙ to_z_pos w8 c.args.day (omega (arith, c.requires.date.2))) in
    let hour : m.time.hour ≡ c.args.time.0 = ap unsigned_abs
    (time.0 ∙ to_z_pos w8 c.args.time.0 (omega (arith, c.requires.clock.0))) in
    let minute : m.time.minute ≡ c.args.time.1 = ap unsigned_abs
    (time.1 ∙ to_z_pos w8 c.args.time.1 (omega (arith, c.requires.clock.1))) in
    let second : m.time.second ≡ c.args.time.2 = ap unsigned_abs
    (time.2 ∙ to_z_pos w8 c.args.time.2 (omega (arith, c.requires.clock.2))) in (
      record {
        civil = (
          subst IsYear year m.date.year_in,
          subst (IsInRange 1 12) month m.date.month_in,
          subst (λ y. IsInRange 1 (days_in_month y c.args.month) c.args.day) year
              (subst (λ n. IsInRange 1 (days_in_month m.date.year n) c.args.day) month
              (subst (IsInRange 1 (days_in_month m.date.year m.date.month)) day m.date.day_in)),
        );
        hour = subst (λ n. n < 24) hour m.time.hour_in;
        minute = subst (λ n. n < 60) minute m.time.minute_in;
        second = subst (λ n. n < 60) second m.time.second_in;
      },
      record {
        year = year;
        month = month;
        day = day;
        hour = hour;
        minute = minute;
        second = second;
        whole = ap unsigned_abs time.3;
      },
    )
