-- Which `CookieError` or `Error` another refusal becomes: want of memory keeps its name.
use Rattle.cookie_text.specs.declared.error.ParseError.{ParseError}
use Rattle.cookie_text.specs.declared.error.ParseError.TheVariants as unread
use Rattle.idna.specs.declared.Errors.{Errors}
use Rattle.idna.specs.declared.Errors.TheVariants.{Invalid, OutOfMemory as IdnaOutOfMemory}
use Rattle.store_parts.specs.declared.error.CookieError.{CookieError}
use Rattle.store_parts.specs.declared.error.CookieError.TheVariants as refused
use Rattle.store_parts.specs.declared.error.IdnaErrors.{IdnaErrors}
use Rattle.store_parts.specs.declared.error.Error.{Error}
use Rattle.store_parts.specs.declared.error.Error.TheVariants.{Idna, Cookie, OutOfMemory}

-- a text that is no cookie
abbrev pub of_parse : ParseError → CookieError
of_parse unread.OutOfMemory = refused.OutOfMemory
of_parse cause = refused.Parse

-- a refused cookie
abbrev pub of_cookie : CookieError → Error
of_cookie refused.OutOfMemory = OutOfMemory
of_cookie cause = Cookie cause

-- a refusal of `idna`, handed on
abbrev pub handed_on : Errors → IdnaErrors
handed_on refusal = record { 0 = refusal }

-- a domain without IDNA form
abbrev pub of_idna : IdnaErrors → Error
of_idna cause = of_errors cause.0
  where
    of_errors : Errors → Error
    of_errors Invalid = Idna cause
    of_errors IdnaOutOfMemory = OutOfMemory
