use Rattle.std.proofs.Common.{◌≡◌, Bool, true, false, None, Some, refl}
use Rattle.user_agent.specs.Dates.{IsTime, IsDay, IsMonth, IsYear}
use Rattle.user_agent.specs.Fields.{Takes}
use Rattle.user_agent.proofs.FindingLemmas.{took, passed}
use Rattle.user_agent.proofs.TokenLemmas.{one_number, one_time, one_month}
use Rattle.user_agent.proofs.dates.Found.take.Goals as goal

pub returns-then-offer-clause-value : goal.returns-then-offer-clause-value
returns-then-offer-clause-value c = record {
  timeless = None;
  dayless = None;
  monthless = None;
  yearless = None;
  time = took IsTime one_time _ _ _ c.args.token.now c.read_time.ensures.value (c.if-offer.ensures.took refl);
  day = (refl, refl);
  month = (refl, refl);
  year = (refl, refl);
}

pub returns-then-offer-2-clause-value : goal.returns-then-offer-2-clause-value
returns-then-offer-2-clause-value c = record {
  timeless = Some c.args.token.now;
  dayless = None;
  monthless = None;
  yearless = None;
  time = passed IsTime one_time _ _ _ c.args.token.now c.read_time.ensures.value (c.if-offer.ensures.passed refl);
  day = took IsDay one_number _ _ _ c.args.token.now c.read_day.ensures.value (c.if-offer-2.ensures.took refl);
  month = (refl, refl);
  year = (refl, refl);
}

pub returns-then-offer-3-clause-value : goal.returns-then-offer-3-clause-value
returns-then-offer-3-clause-value c = record {
  timeless = Some c.args.token.now;
  dayless = Some c.args.token.now;
  monthless = None;
  yearless = None;
  time = passed IsTime one_time _ _ _ c.args.token.now c.read_time.ensures.value (c.if-offer.ensures.passed refl);
  day = passed IsDay one_number _ _ _ c.args.token.now c.read_day.ensures.value (c.if-offer-2.ensures.passed refl);
  month = took IsMonth one_month _ _ _ c.args.token.now c.read_month.ensures.value (c.if-offer-3.ensures.took refl);
  year = (refl, refl);
}

pub returns-clause-value : goal.returns-clause-value
returns-clause-value c = by c.offer-4.result refl
  where
    by : (taken : Bool) → c.offer-4.result ≡ taken → Takes c.args.self.now c.args.token.now (record {
      time = c.offer.new.place;
      day = c.offer-2.new.place;
      month = c.offer-3.new.place;
      year = c.offer-4.new.place;
    })
    by true is = record {
      timeless = Some c.args.token.now;
      dayless = Some c.args.token.now;
      monthless = Some c.args.token.now;
      yearless = None;
      time = passed IsTime one_time _ _ _ c.args.token.now c.read_time.ensures.value (c.if-offer.ensures.passed refl);
      day = passed IsDay one_number _ _ _ c.args.token.now c.read_day.ensures.value (c.if-offer-2.ensures.passed refl);
      month = passed IsMonth one_month _ _ _ c.args.token.now c.read_month.ensures.value
          (c.if-offer-3.ensures.passed refl);
      year = took IsYear one_number _ _ _ c.args.token.now c.read_year.ensures.value (c.offer-4.ensures.took is);
    }
    by false is = record {
      timeless = Some c.args.token.now;
      dayless = Some c.args.token.now;
      monthless = Some c.args.token.now;
      yearless = Some c.args.token.now;
      time = passed IsTime one_time _ _ _ c.args.token.now c.read_time.ensures.value (c.if-offer.ensures.passed refl);
      day = passed IsDay one_number _ _ _ c.args.token.now c.read_day.ensures.value (c.if-offer-2.ensures.passed refl);
      month = passed IsMonth one_month _ _ _ c.args.token.now c.read_month.ensures.value
          (c.if-offer-3.ensures.passed refl);
      year = passed IsYear one_number _ _ _ c.args.token.now c.read_year.ensures.value (c.offer-4.ensures.passed is);
    }
