-- When a cookie ends (RFC 6265, 5.2.1, 5.2.2 and 5.3, step 3). Moments and lengths are counted in
-- nanoseconds, moments from 1970-01-01T00:00:00 in UTC.
use Rattle.std.specs.Prelude.{ℤ, pos, ◌+ℤ◌, ◌*ℤ◌, ℕ, Bool, false, Option, Some, None, int_le, int_lt, option_map}
use Rattle.std.specs.Prelude.{if◌then◌else◌}
use Rattle.std.specs.Int.{int_div_euclid, int_min}
use Rattle.cookie_text.specs.Record.{Record, moment_of}
use Rattle.jiff.specs.Words.{civil_nanos}
use Rattle.store_parts.specs.declared.cookie_expiration.CookieExpiration.{CookieExpiration}
use Rattle.store_parts.specs.declared.cookie_expiration.CookieExpiration.TheVariants.{AtUtc, SessionEnd}

-- the Unix epoch, 1970-01-01T00:00:00
abbrev pub epoch : ℤ
epoch = pos 0

-- the latest moment that an expiry is put at: 9999-12-31T23:59:59
abbrev pub latest : ℤ
latest = pos 253_402_300_799_000_000_000

-- the nanoseconds of whole seconds
abbrev pub seconds : ℕ → ℤ
seconds n = pos n *ℤ pos 1_000_000_000

-- the expiry-time of a Max-Age: the epoch where the length is zero or below, else the length after
-- now, at most the latest moment (5.2.2)
abbrev pub expiry_after : ℤ → ℤ → ℤ
expiry_after length now =
    if int_lt (pos 0) length then int_min (now +ℤ length) latest else epoch

-- the moment at which a cookie ends, where that is not the session's end
abbrev pub death_of : CookieExpiration → Option ℤ
death_of (AtUtc moment) = Some (civil_nanos moment)
death_of SessionEnd = None

-- the death of a cookie that is received at a moment: by its max-age, fraction kept; without one
-- its expiry, fraction kept and uncut; else none
abbrev pub death : Record → ℤ → Option ℤ
death cookie now = death_by cookie.max_age
  where
    death_by : Option ℤ → Option ℤ
    death_by (Some length) = Some (expiry_after length now)
    death_by None = option_map civil_nanos (moment_of cookie.expires)

-- dead at the moment: the death is at or before it
abbrev pub is_dead : ℤ → Option ℤ → Bool
is_dead now None = false
is_dead now (Some death) = int_le death now

-- the whole second in which a moment lies: its fraction is left out
abbrev pub whole_second : ℤ → ℤ
whole_second moment = int_div_euclid moment (pos 1_000_000_000)

-- the whole second of the death
abbrev pub death_second : CookieExpiration → Option ℤ
death_second expiry = option_map whole_second (death_of expiry)
