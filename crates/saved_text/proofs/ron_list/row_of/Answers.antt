use Rattle.std.proofs.Common.{refl}
use Rattle.saved_text.proofs.ron_list.row_of.Goals as goal

pub returns : goal.returns
returns c = λ r. record {
  raw = refl;
  cookie = r.0;
  path = refl;
  from_attribute = refl;
  domain = refl;
  expires =
      c.death-expires.ensures r.1;
}
