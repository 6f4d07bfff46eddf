use Rattle.std.proofs.Common.{subst, sym}
use Rattle.std.proofs.lemmas.Str.{IsUtf8-append, IsUtf8-from_ascii}
use Rattle.std.specs.Str.{IsUtf8}
use Rattle.base64.specs.Engines.{standard}
use Rattle.base64.proofs.EngineFacts.{IsAscii-encode_of}
use Rattle.cookie.proofs.laws.texts_are_utf8.Goals as goal

pub returns-clause-signed : goal.returns-clause-signed
returns-clause-signed c = λ key value utf8. IsUtf8-append _ value
    (IsUtf8-from_ascii _ (IsAscii-encode_of standard _)) utf8

pub returns-clause-sealed : goal.returns-clause-sealed
returns-clause-sealed c = λ key name value text s. subst IsUtf8 (sym s.2.2.1)
    (IsUtf8-from_ascii _ (IsAscii-encode_of standard _))
