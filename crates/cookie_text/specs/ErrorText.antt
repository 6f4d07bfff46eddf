-- The texts of the errors.
use Rattle.std.specs.Prelude.{ℕ, List, codes}
use Rattle.cookie_text.specs.declared.error.ParseError.{ParseError}
use Rattle.cookie_text.specs.declared.error.ParseError.TheVariants.{MissingPair, EmptyName, Utf8Error, OutOfMemory}

-- the variant's name
abbrev pub error_text : ParseError → List ℕ
error_text MissingPair = codes "MissingPair"
error_text EmptyName = codes "EmptyName"
error_text Utf8Error = codes "Utf8Error"
error_text OutOfMemory = codes "OutOfMemory"
