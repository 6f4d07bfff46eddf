-- A cookie with one part set, which is then no slice of a source.
use Rattle.std.specs.Prelude.{◌≡◌, ℕ, Bool, List, [], Option, Some, None, ℤ, pos, neg_ℤ, ◌+ℤ◌, int_lt, if◌then◌else◌}
use Rattle.std.specs.Int.{int_min}
use Rattle.jiff.specs.Types.{DateTime}
use Rattle.jiff_core.specs.DateTime.{civil_nanos}
use Rattle.cookie_text.specs.declared.expiration.Expiration.{Expiration}
use Rattle.cookie_text.specs.declared.expiration.Expiration.TheVariants.{DateTime as At, Session}
use Rattle.cookie_text.specs.declared.draft.SameSite.{SameSite}
use Rattle.cookie_text.specs.Record.{Seen}

abbrev pub with_name : Seen → List ℕ → Seen
with_name s text = record {
  cookie = record s.cookie { name = text };
  raw = record s.raw { name = None };
}

abbrev pub with_value : Seen → List ℕ → Seen
with_value s text = record {
  cookie = record s.cookie { value = text };
  raw = record s.raw { value = None };
}

abbrev pub with_path : Seen → Option (List ℕ) → Seen
with_path s path = record {
  cookie = record s.cookie { path = path };
  raw = record s.raw { path = None };
}

abbrev pub with_domain : Seen → Option (List ℕ) → Seen
with_domain s domain = record {
  cookie = record s.cookie { domain = domain };
  raw = record s.raw { domain = None };
}

-- an attribute that has no text
abbrev pub with_http_only : Seen → Option Bool → Seen
with_http_only s flag = record s { cookie = record s.cookie { http_only = flag } }

abbrev pub with_secure : Seen → Option Bool → Seen
with_secure s flag = record s { cookie = record s.cookie { secure = flag } }

abbrev pub with_partitioned : Seen → Option Bool → Seen
with_partitioned s flag = record s { cookie = record s.cookie { partitioned = flag } }

abbrev pub with_same_site : Seen → Option SameSite → Seen
with_same_site s same_site = record s { cookie = record s.cookie { same_site = same_site } }

-- in nanoseconds
abbrev pub with_max_age : Seen → Option ℤ → Seen
with_max_age s max_age = record s { cookie = record s.cookie { max_age = max_age } }

abbrev pub with_expires : Seen → Option Expiration → Seen
with_expires s expires = record s { cookie = record s.cookie { expires = expires } }

-- 9999-12-31T23:59:59.999999, counted like all moments here in nanoseconds from 1970
abbrev pub latest_end : ℤ
latest_end = pos 253_402_300_799_999_999_000

-- an expiry as it is kept: a moment after the latest becomes that one
abbrev pub IsKept : Expiration → Expiration → Type 0
IsKept (At given) (At kept) = civil_nanos kept ≡ int_min (civil_nanos given) latest_end
IsKept (At given) Session = ⊥
IsKept Session (At kept) = ⊥
IsKept Session Session = Unit {0}

-- a moment is mapped as `gives` says, and the end of the session stays
abbrev pub IsMapped : Expiration → (DateTime → DateTime → Type 0) → Expiration → Type 0
IsMapped (At d) gives (At e) = gives d e
IsMapped (At d) gives Session = ⊥
IsMapped Session gives (At e) = ⊥
IsMapped Session gives Session = Unit {0}

-- the cookie has this expiry, as it is kept, and is otherwise what it was
abbrev pub SetsExpires : Seen → Expiration → Seen → Type 0
SetsExpires old given new =
    (kept : Expiration) × IsKept given kept × (new ≡ with_expires old (Some kept))

-- the ends of the calendar: -9999-01-01T00:00:00 and 9999-12-31T23:59:59.999999999
abbrev pub first_moment : ℤ
first_moment = neg_ℤ (pos 377_705_116_800_000_000_000)

abbrev pub last_moment : ℤ
last_moment = pos 253_402_300_799_999_999_999

-- a sum stops at the ends of the calendar
abbrev pub stopped : ℤ → ℤ
stopped n =
    if int_lt n first_moment then first_moment else (if int_lt last_moment n then last_moment else n)

-- the moment is this length after the other one
abbrev pub IsAfter : DateTime → ℤ → DateTime → Type 0
IsAfter now length moment = civil_nanos moment ≡ stopped (civil_nanos now +ℤ length)

-- 7,300 days in nanoseconds, and 365
abbrev pub twenty_years : ℤ
twenty_years = pos 630_720_000_000_000_000

abbrev pub one_year : ℤ
one_year = pos 31_536_000_000_000_000

-- the cookie lives for twenty years from now on
abbrev pub MakesPermanent : Seen → DateTime → Seen → Type 0
MakesPermanent old now new =
    (end : DateTime) × IsAfter now twenty_years end
    × SetsExpires (with_max_age old (Some twenty_years)) (At end) new

-- the cookie is empty, and ended a year ago
abbrev pub MakesRemoval : Seen → DateTime → Seen → Type 0
MakesRemoval old now new =
    (end : DateTime) × IsAfter now (neg_ℤ one_year) end
    × SetsExpires (with_max_age (with_value old []) (Some (pos 0))) (At end) new
