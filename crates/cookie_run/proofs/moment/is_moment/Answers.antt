use Rattle.cookie_run.proofs.Calendar.{moment_within, whole_of_moment, within_of_moment, zero_test, zero_tests}
use Rattle.cookie_run.proofs.Calendar.{not_zero}
use Rattle.cookie_run.proofs.moment.is_moment.Goals as goal

pub returns-then-subsec_nanosecond-eq0 : goal.returns-then-subsec_nanosecond-eq0
returns-then-subsec_nanosecond-eq0 c = (
  λ h. let w = c.is_within.ensures.0 h in moment_within c.args.at
      (zero_test c.subsec_nanosecond.result c.args.at.time.subsec_nanosecond c.subsec_nanosecond.ensures
      c.if-subsec_nanosecond-eq0.true) w.0 w.1,
  λ m. c.is_within.ensures.1 (within_of_moment _ m),
)

pub returns-else-subsec_nanosecond-eq0 : goal.returns-else-subsec_nanosecond-eq0
returns-else-subsec_nanosecond-eq0 c = (
  λ h. absurd (not_zero _ c.if-subsec_nanosecond-eq0.false h),
  λ m. zero_tests c.subsec_nanosecond.result c.args.at.time.subsec_nanosecond c.subsec_nanosecond.ensures
      (whole_of_moment c.args.at m),
)
