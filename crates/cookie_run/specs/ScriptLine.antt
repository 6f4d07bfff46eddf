-- A line of a script: its fields, and what it asks for (own: docs/DEFINITIONS.md).
use Rattle.std.specs.Prelude.{ℕ, ℤ, pos, neg_ℤ, ◌*ℤ◌, ◌^◌, List, [], ◌∷◌, map, Bool, ◌&&◌, ◌==◌, nat_lt, nat_le}
use Rattle.std.specs.Prelude.{codes, Option, Some, None, option_map, option_and_then, Result, Ok, Err, if◌then◌else◌}
use Rattle.std.specs.Char.{is_ascii_digit}
use Rattle.std.specs.List.{slice_split, list_all}
use Rattle.std.specs.Str.{bytes_eq, is_utf8}
use Rattle.std.specs.Str.Parse.{digits_value}
use Rattle.std.specs.Result.{result_ok}
use Rattle.hex.specs.Hex.{decode_sized}
use Rattle.jiff.specs.Types.{DateTime}
use Rattle.percent_encoding.specs.Percent.{percent_decode}
use Rattle.url.specs.Parts.{Parts}
use Rattle.cookie.specs.Key.{derived}
use Rattle.cookie_text.specs.Record.{Record, bare, unsliced}
use Rattle.cookie_text.specs.declared.expiration.Expiration.TheVariants.{DateTime as At}
use Rattle.cookie_client.specs.Hosts.{url_of}
use Rattle.cookie_run.specs.RingPlay.{RingCommand, Set, SetUntil, Remove, Get, GetUntil}
use Rattle.cookie_client.specs.Moment.{date_of, moment_date, moment_of}
use Rattle.cookie_client.specs.declared.ending.EndingWay.{EndingWay}
use Rattle.cookie_client.specs.declared.ending.EndingWay.TheVariants as ends
use Rattle.cookie_client.specs.declared.way.Way.{Way}
use Rattle.cookie_client.specs.declared.way.Way.TheVariants.{Plain, Host, Secure, Signed, Sealed}
use Rattle.cookie_run.specs.declared.script.cause.Cause.{Cause}
use Rattle.cookie_run.specs.declared.script.cause.Cause.TheVariants.{Word, Text, Fields, Url, Moment}

-- what a line asks for; moments are dates, or nanoseconds since 1970-01-01T00:00:00
pub data Line : Type 0 where
  Opens : (url : Parts) (at : DateTime) → Line
  Commands : (command : RingCommand) → Line
  Delivers : (at : ℤ) → Line
  Loses : Line
  Receives : (url : Parts) (lines : List (List ℕ)) (at : ℤ) → Line
  Heads : (url : Parts) (at : ℤ) → Line
  Restarts : (at : ℤ) → Line
  Rotates : (key : List ℕ) (at : DateTime) (keep_until : Option DateTime) → Line

-- fields stand between tabs, each percent-decoded
abbrev pub is_tab : ℕ → Bool
is_tab b = b == 9

abbrev pub fields_of : List ℕ → List (List ℕ)
fields_of line = map percent_decode (slice_split is_tab line)

-- a line of a URL and a moment; the URL is tested first
abbrev pub placed : {A : Type 0} → (Parts → A → Line) → Option Parts → Option A → Result Line Cause
placed line None at = Err Url
placed line (Some url) None = Err Moment
placed line (Some url) (Some at) = Ok (line url at)

-- a line of a moment
abbrev pub timed : (ℤ → Line) → Option ℤ → Result Line Cause
timed line None = Err Moment
timed line (Some at) = Ok (line at)

-- ---- when a cookie ends

-- what a field says, where `-` says none
abbrev pub unless_dash : {A : Type 0} → (List ℕ → Option A) → List ℕ → Option (Option A)
unless_dash read text = if bytes_eq text (codes "-") then Some None else option_map (λ x. Some x) (read text)

-- the number of one or more digits
abbrev pub number_of : List ℕ → Option ℕ
number_of [] = None
number_of (b ∷ bs) = if list_all is_ascii_digit (b ∷ bs) then Some (digits_value 10 (b ∷ bs)) else None

-- minus the number, and the number itself, where that is of 64 bits
abbrev pub below_zero : ℕ → Option ℤ
below_zero n = if nat_le n (2 ^ 63) then Some (neg_ℤ (pos n)) else None

abbrev pub from_zero : ℕ → Option ℤ
from_zero n = if nat_lt n (2 ^ 63) then Some (pos n) else None

-- whole seconds: digits, and a `-` may stand before them
abbrev pub seconds_of : List ℕ → Option ℤ
seconds_of [] = None
seconds_of (b ∷ bs) =
    if b == 45 then option_and_then below_zero (number_of bs) else option_and_then from_zero (number_of (b ∷ bs))

-- the same in nanoseconds
abbrev pub age_of : List ℕ → Option ℤ
age_of text = option_map (λ seconds. seconds *ℤ pos 1_000_000_000) (seconds_of text)

-- the cookie that `set` speaks of
abbrev pub dated : List ℕ → List ℕ → Option ℤ → Option DateTime → Record
dated name value age end =
    record (bare name value) { max_age = age; expires = option_map (λ date. At date) end }

abbrev pub cookie_line : Way → List ℕ → List ℕ → Option ℤ → Option DateTime → Line
cookie_line way name value age end = Commands (Set way (unsliced (dated name value age end)))

abbrev pub with_end : (Option ℤ → Option DateTime → Line) → Option (Option ℤ) → Option (Option DateTime)
    → Result Line Cause
with_end line None end = Err Fields
with_end line (Some age) None = Err Fields
with_end line (Some age) (Some end) = Ok (line age end)

-- ---- the fields behind each word

-- `open url moment`
abbrev pub read_open : List (List ℕ) → Result Line Cause
read_open (url ∷ at ∷ []) = placed Opens (url_of url) (moment_date at)
read_open fields = Err Fields

-- `header url moment`
abbrev pub read_header : List (List ℕ) → Result Line Cause
read_header (url ∷ at ∷ []) = placed Heads (url_of url) (moment_of at)
read_header fields = Err Fields

abbrev pub way_of : List ℕ → Option Way
way_of word =
    if bytes_eq word (codes "plain") then Some Plain
    else if bytes_eq word (codes "host") then Some Host
    else if bytes_eq word (codes "secure") then Some Secure
    else if bytes_eq word (codes "signed") then Some Signed
    else if bytes_eq word (codes "sealed") then Some Sealed
    else None

abbrev pub for_way : {W : Type 0} → Option W → (W → Result Line Cause) → Result Line Cause
for_way None line = Err Fields
for_way (Some way) line = line way

-- `set way name value max-age expires`
abbrev pub read_set : List (List ℕ) → Result Line Cause
read_set (way ∷ name ∷ value ∷ max_age ∷ expires ∷ []) = for_way (way_of way)
    (λ w. with_end (cookie_line w name value) (unless_dash age_of max_age) (unless_dash date_of expires))
read_set fields = Err Fields

-- `remove way name`
abbrev pub read_remove : List (List ℕ) → Result Line Cause
read_remove (way ∷ name ∷ []) = for_way (way_of way) (λ w. Ok (Commands (Remove w name)))
read_remove fields = Err Fields

-- `get way name`
abbrev pub read_get : List (List ℕ) → Result Line Cause
read_get (way ∷ name ∷ []) = for_way (way_of way) (λ w. Ok (Commands (Get w name)))
read_get fields = Err Fields

-- the ways of values that end
abbrev pub ending_way_of : List ℕ → Option EndingWay
ending_way_of word =
    if bytes_eq word (codes "signed") then Some ends.Signed
    else if bytes_eq word (codes "sealed") then Some ends.Sealed
    else None

abbrev pub ending_line : EndingWay → List ℕ → List ℕ → Option DateTime → Result Line Cause
ending_line way name value None = Err Fields
ending_line way name value (Some until) = Ok (Commands (SetUntil way (unsliced (bare name value)) until))

-- `set-until way name value until`
abbrev pub read_set_until : List (List ℕ) → Result Line Cause
read_set_until (way ∷ name ∷ value ∷ until ∷ []) =
    for_way (ending_way_of way) (λ w. ending_line w name value (date_of until))
read_set_until fields = Err Fields

-- `get-until way name`
abbrev pub read_get_until : List (List ℕ) → Result Line Cause
read_get_until (way ∷ name ∷ []) = for_way (ending_way_of way) (λ w. Ok (Commands (GetUntil w name)))
read_get_until fields = Err Fields

-- `deliver moment`
abbrev pub read_deliver : List (List ℕ) → Result Line Cause
read_deliver (at ∷ []) = timed Delivers (moment_of at)
read_deliver fields = Err Fields

-- `restart moment`
abbrev pub read_restart : List (List ℕ) → Result Line Cause
read_restart (at ∷ []) = timed Restarts (moment_of at)
read_restart fields = Err Fields

-- the 32 bytes of 64 hexadecimal digits, of either case
abbrev pub seed_of : List ℕ → Option (List ℕ)
seed_of text = result_ok (decode_sized text 32)

-- a rotation to the key that comes from a seed; seed and end are tested before the moment
abbrev pub rotation : Option (List ℕ) → Option (Option DateTime) → Option DateTime → Result Line Cause
rotation None keep_until at = Err Fields
rotation (Some seed) None at = Err Fields
rotation (Some seed) (Some keep_until) None = Err Moment
rotation (Some seed) (Some keep_until) (Some at) = Ok (Rotates (derived seed) at keep_until)

-- `rotate seed moment keep`
abbrev pub read_rotate : List (List ℕ) → Result Line Cause
read_rotate (seed ∷ at ∷ keep ∷ []) = rotation (seed_of seed) (unless_dash date_of keep) (moment_date at)
read_rotate fields = Err Fields

-- `lose`
abbrev pub read_lose : List (List ℕ) → Result Line Cause
read_lose [] = Ok Loses
read_lose fields = Err Fields

-- `receive url moment line..`, whose lines are any bytes
abbrev pub read_receive : List (List ℕ) → Result Line Cause
read_receive (url ∷ at ∷ lines) =
    if is_utf8 url && is_utf8 at then placed (λ u m. Receives u lines m) (url_of url) (moment_of at) else Err Text
read_receive (url ∷ []) = if is_utf8 url then Err Fields else Err Text
read_receive [] = Err Fields

-- ---- the line

-- every field is a text, or the line is refused before anything else is looked at
abbrev pub of_texts : (List (List ℕ) → Result Line Cause) → List (List ℕ) → Result Line Cause
of_texts read fields = if list_all is_utf8 fields then read fields else Err Text

-- the word says what the fields behind it are
abbrev pub read_word : List ℕ → List (List ℕ) → Result Line Cause
read_word word fields =
    if bytes_eq word (codes "open") then of_texts read_open fields
    else if bytes_eq word (codes "set") then of_texts read_set fields
    else if bytes_eq word (codes "remove") then of_texts read_remove fields
    else if bytes_eq word (codes "get") then of_texts read_get fields
    else if bytes_eq word (codes "deliver") then of_texts read_deliver fields
    else if bytes_eq word (codes "lose") then of_texts read_lose fields
    else if bytes_eq word (codes "receive") then read_receive fields
    else if bytes_eq word (codes "header") then of_texts read_header fields
    else if bytes_eq word (codes "restart") then of_texts read_restart fields
    else if bytes_eq word (codes "rotate") then of_texts read_rotate fields
    else if bytes_eq word (codes "set-until") then of_texts read_set_until fields
    else if bytes_eq word (codes "get-until") then of_texts read_get_until fields
    else Err Word

abbrev pub read_fields : List (List ℕ) → Result Line Cause
read_fields [] = Err Word
read_fields (word ∷ fields) = read_word word fields

-- what a line asks for, or the first fault that its text has
unfoldable pub read_line : List ℕ → Result Line Cause
read_line line = read_fields (fields_of line)
