use Rattle.std.proofs.Common.{subst}
use Rattle.cookie_text.specs.Decoding.{ReadsEncoded}
use Rattle.cookie_text.proofs.cookie.Cookie.parse_encoded_owned.Goals as goal

pub returns : goal.returns
returns c = (
  c.parse_encoded.result,
  subst (λ t. ReadsEncoded t c.parse_encoded.result) c.as_str.ensures.value c.parse_encoded.ensures,
  c.own.ensures,
)
