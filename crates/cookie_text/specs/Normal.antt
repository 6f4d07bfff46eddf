-- What a printed cookie reads as (RFC 6265, sections 4.1.1 and 5.2).
use Rattle.std.specs.Prelude.{◌≡◌, ℕ, ◌<◌, Bool, true, false, List, [], ◌∷◌, length, Option, Some, None, option_map, ℤ}
use Rattle.std.specs.Prelude.{pos, negsuc, ◌*ℤ◌, int_lt, IfSome, All, ◌==◌}
use Rattle.std.proofs.Common.{lit<}
use Rattle.std.specs.Str.{trim}
use Rattle.jiff.specs.Types.{DateTime}
use Rattle.cookie_text.specs.declared.expiration.Expiration.{Expiration}
use Rattle.cookie_text.specs.declared.expiration.Expiration.TheVariants.{DateTime as At, Session}
use Rattle.cookie_text.specs.Pieces.{semicolon, full_stop}
use Rattle.cookie_text.specs.Record.{Record, domain_of}
use Rattle.cookie_text.specs.Printing.{is_set, prints_secure, whole_seconds}

-- a flag is there or not
abbrev pub kept : Bool → Option Bool
kept true = Some true
kept false = None

-- a length below zero reads as none
abbrev pub not_below_zero : ℤ → ℤ
not_below_zero (pos n) = pos n
not_below_zero (negsuc n) = pos 0

-- the moment without its fraction
abbrev pub whole_moment : DateTime → DateTime
whole_moment d = record { date = d.date; time = record d.time { subsec_nanosecond = 0; subsec_in = lit< tt } }

abbrev pub whole_end : Option Expiration → Option Expiration
whole_end (Some (At d)) = Some (At (whole_moment d))
whole_end (Some Session) = None
whole_end None = None

abbrev pub normal : Record → Record
normal r = record {
  name = r.name;
  value = r.value;
  http_only = kept (is_set r.http_only);
  secure = kept (prints_secure r);
  partitioned = kept (is_set r.partitioned);
  same_site = r.same_site;
  max_age = option_map (λ nanos. not_below_zero (whole_seconds nanos) *ℤ pos 1_000_000_000) r.max_age;
  path = r.path;
  domain = domain_of r;
  expires = whole_end r.expires;
}

-- no white space at an end, and no semicolon
pub record IsPiece (text : List ℕ) : Type 0 where
  pub trimmed : trim text ≡ text
  pub clean : All (λ b. (b == semicolon) ≡ false) text

-- the text begins with no dot
abbrev pub IsDotless : List ℕ → Type 0
IsDotless [] = Unit {0}
IsDotless (b ∷ bs) = (b == full_stop) ≡ false

-- an expiry of a year below 100
abbrev pub is_short_year : Option Expiration → Bool
is_short_year (Some (At d)) = int_lt d.date.year (pos 100)
is_short_year (Some Session) = false
is_short_year None = false

-- what reads back
pub record IsReadable (r : Record) : Type 0 where
  pub name : 0 < length r.name
  pub path : IfSome r.path IsPiece
  pub domain : IfSome (domain_of r) (λ text. IsPiece text × (0 < length text) × IsDotless text)
  pub expires : is_short_year r.expires ≡ false
