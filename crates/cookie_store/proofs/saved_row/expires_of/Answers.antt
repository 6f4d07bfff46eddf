use Rattle.std.proofs.Common.{refl, rules}
use Rattle.cookie_store.proofs.saved_row.expires_of.Goals as goal

pub returns-then-year-lt0 : goal.returns-then-year-lt0
returns-then-year-lt0 c = rw c.in-AtUtc.is (record {
  moment = c.in-AtUtc.moment;
  nanos = refl;
  year = search rules;
})

pub returns-else-year-lt0 : goal.returns-else-year-lt0
returns-else-year-lt0 c = rw c.in-AtUtc.is (record {
  moment = c.in-AtUtc.moment;
  nanos = refl;
  year = search rules;
  text = refl;
})
