-- Rows of JSON from the values that they are, and the bytes of dates.
use Rattle.std.proofs.Common.{◌≡◌, ℕ, ℤ, pos, ◌+◌, ◌*◌, ◌+ℤ◌, ◌-ℤ◌, ◌*ℤ◌, ◌/◌, ◌%◌, ◌<◌}
use Rattle.std.proofs.Common.{false, List, [], ◌∷◌, Some, None}
use Rattle.std.proofs.Common.{Option}
use Rattle.std.proofs.Common.{refl, sym, ap, ◌∙◌, arith}
use Rattle.std.specs.Prelude.{codes, if◌then◌else◌, unsigned_abs}
use Rattle.std.specs.Str.{bytes_eq}
use Rattle.jiff.specs.Types.{DateTime}
use Rattle.jiff.specs.Words.{civil_nanos, epoch_day}
use Rattle.jiff.proofs.Family.{civil_nanos-parts}
use Rattle.jiff.proofs.SpanFacts.{signed_arith}
use Rattle.jiff_core.specs.Time.{time_seconds}
use Rattle.jiff_core.proofs.CalendarLemmas.{days_in_month_bounds}
use Rattle.serde_json.specs.Data.{Data, boolean, string, array, object, Items, no_items, item, no_members, member}
use Rattle.saved_text.specs.Json.{domain_value, expires_value, row_value, rows_items, rows_value}
use Rattle.saved_text.specs.PrintedDates.{without_fraction}
use Rattle.saved_text.specs.Rfc3339.{date_text}
use Rattle.saved_text.specs.Row.{Shown, Domain, host_only, suffix, not_present, empty}
use Rattle.saved_text.specs.RowWords.{AreBytes}

-- ---- values

abbrev domain_in : Data → Domain
domain_in (object (member k (string t) no_members)) = if bytes_eq k (codes "HostOnly") then host_only t else suffix t
domain_in (string s) = if bytes_eq s (codes "Empty") then empty else not_present
domain_in d = empty

domain_back : (d : Domain) → domain_in (domain_value d) ≡ d
domain_back (host_only t) = refl
domain_back (suffix t) = refl
domain_back not_present = refl
domain_back empty = refl

abbrev expires_in : Data → Option (List ℕ)
expires_in (object (member k (string t) no_members)) = Some t
expires_in d = None

expires_back : (e : Option (List ℕ)) → expires_in (expires_value e) ≡ e
expires_back (Some t) = refl
expires_back None = refl

abbrev row_in : Data → Shown
row_in (object (member a d (member b e (member c (array (item (string p) (item (boolean f) no_items)))
    (member r (string raw) no_members))))) =
    record { raw = raw; path = p; from_attribute = f; domain = domain_in d; expires = expires_in e }
row_in d = record { raw = []; path = []; from_attribute = false; domain = empty; expires = None }

row_back : (t : Shown) → row_in (row_value t) ≡ t
row_back t = λ i. record {
  raw = t.raw;
  path = t.path;
  from_attribute = t.from_attribute;
  domain = domain_back t.domain i;
  expires = expires_back t.expires i;
}

abbrev rows_in : Items → List Shown
rows_in no_items = []
rows_in (item d ds) = row_in d ∷ rows_in ds

rows_back : (ts : List Shown) → rows_in (rows_items ts) ≡ ts
rows_back [] = refl
rows_back (t ∷ ts) = λ i. row_back t i ∷ rows_back ts i

abbrev list_in : Data → List Shown
list_in (array ds) = rows_in ds
list_in d = []

-- rows of one value are the same
pub same_shown : (ts us : List Shown) → rows_value ts ≡ rows_value us → ts ≡ us
same_shown ts us e = sym (rows_back ts) ∙ ap list_in e ∙ rows_back us

-- ---- dates

digits : (n : ℕ) → n < 100 → (48 + n / 10 < 256) × (48 + n % 10 < 256)
digits n h = (omega (arith, h), omega arith)

pub date_bytes : (d : DateTime) → AreBytes (date_text d)
date_bytes d =
    let year = unsigned_abs d.date.year in
    let (a, b) = digits (year / 100 % 100) (omega arith) in
    let (c, e) = digits (year % 100) (omega arith) in
    let (f, g) = digits d.date.month (omega (arith, d.date.month_in.1)) in
    let most = (days_in_month_bounds d.date.year d.date.month).0 in
    let (h, j) = digits d.date.day (omega (arith, most, d.date.day_in.1)) in
    let (k, l) = digits d.time.hour (omega (arith, d.time.hour_in)) in
    let (m, n) = digits d.time.minute (omega (arith, d.time.minute_in)) in
    let (o, p) = digits d.time.second (omega (arith, d.time.second_in)) in
    let dash : 45 < 256 = omega arith in
    let colon : 58 < 256 = omega arith in
    let tee : 84 < 256 = omega arith in
    let zed : 90 < 256 = omega arith in (
      a,
      (
        b,
        (
          c,
          (
            e,
            (
              dash,
              (
                f,
                (
                  g,
                  (
                    dash,
                    (
                      h,
                      (
                        j,
                        (
                          tee,
                          (k, (l, (colon, (m, (n, (colon, (o, (p, (zed, tt))))))))),
                        ),
                      ),
                    ),
                  ),
                ),
              ),
            ),
          ),
        ),
      ),
    )

-- the same date and time without the fraction
pub whole : DateTime → DateTime
whole d = record d { time = record d.time { subsec_nanosecond = 0; subsec_in = omega arith } }

less : (e : ℤ) (s n : ℕ) → e +ℤ pos (s + n) -ℤ pos n ≡ e +ℤ pos (s + 0)
less e s n = omega (arith, signed_arith)

pub whole_nanos : (d : DateTime) → without_fraction d ≡ civil_nanos (whole d)
unfolding whole
whole_nanos d =
    ap (λ z. z -ℤ pos d.time.subsec_nanosecond) (civil_nanos-parts d)
    ∙ less (epoch_day d.date *ℤ pos 86_400_000_000_000) (time_seconds d.time * 1_000_000_000) d.time.subsec_nanosecond
    ∙ sym (civil_nanos-parts (whole d))
