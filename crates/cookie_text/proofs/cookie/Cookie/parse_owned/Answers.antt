use Rattle.std.proofs.Common.{subst}
use Rattle.cookie_text.specs.Decoding.{ReadsOwned}
use Rattle.cookie_text.proofs.cookie.Cookie.parse_owned.Goals as goal

pub returns : goal.returns
returns c = subst (λ t. ReadsOwned t c.from_str.result) c.as_str.ensures.value c.from_str.ensures
