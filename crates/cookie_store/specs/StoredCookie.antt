-- The cookie of a store as contracts see it (RFC 6265, 5.3, step 2).
use Rattle.std.specs.Prelude.{ℤ, Box, Option, Result, Ok, Err}
use Rattle.cookie_text.specs.Record.{Seen, unsliced}
use Rattle.store_parts.specs.DomainMatch.{Domain, domain_of}
use Rattle.store_parts.specs.Expiry.{death_of}
use Rattle.store_parts.specs.PathMatch.{Path, path_of}
use Rattle.store_parts.specs.declared.error.CookieError.{CookieError}
use Rattle.cookie_store.specs.declared.stored_cookie.Cookie.{Cookie}

-- the cookie as it was received, its path and domain, and the moment at which it ends, where that
-- is not the session's end, in nanoseconds from 1970-01-01T00:00:00 in UTC
pub record StoredCookie : Type 0 where
  pub raw : Seen
  pub path : Path
  pub domain : Domain
  pub death : Option ℤ

-- what contracts see of a `Cookie`
abbrev pub stored_of : Cookie → StoredCookie
stored_of c = record {
  raw = c.raw_cookie;
  path = path_of c.path;
  domain = domain_of c.domain;
  death = death_of c.expires;
}

-- the same of a cookie in a box
abbrev pub stored_in : {Z : Type 0} → Box Cookie Z → StoredCookie
stored_in c = stored_of c.value

-- what contracts see of the answer of a call that makes a cookie
abbrev pub made_of : Result Cookie CookieError → Result StoredCookie CookieError
made_of (Ok c) = Ok (stored_of c)
made_of (Err cause) = Err cause

-- the cookie owning its texts: no part of the one that was received is a slice of its source
abbrev pub owned : StoredCookie → StoredCookie
owned c = record c { raw = unsliced c.raw.cookie }
