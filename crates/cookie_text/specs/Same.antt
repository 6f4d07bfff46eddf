-- The answer of `==` on two cookies, field by field but for same_site.
use Rattle.std.specs.Prelude.{Bool, Option, Some, option_map, ℤ}
use Rattle.std.specs.Bool.{beq}
use Rattle.std.specs.Option.{option_eq}
use Rattle.std.specs.Ordering.{int_eq, on, eq_of_both}
use Rattle.std.specs.Str.{bytes_eq}
use Rattle.jiff_core.specs.DateTime.{civil_nanos}
use Rattle.cookie_text.specs.declared.expiration.Expiration.{Expiration}
use Rattle.cookie_text.specs.Record.{Record, Seen, compared, moment_of}

-- the nanoseconds of a moment; None is for the end of the session
abbrev pub end_nanos : Expiration → Option ℤ
end_nanos e = option_map civil_nanos (moment_of (Some e))

abbrev pub same_pair : Record → Record → Bool
same_pair = eq_of_both (on (λ r. r.name) bytes_eq) (on (λ r. r.value) bytes_eq)

abbrev pub same_flags : Record → Record → Bool
same_flags =
    eq_of_both (eq_of_both (on (λ r. r.http_only) (option_eq beq)) (on (λ r. r.secure) (option_eq beq)))
    (on (λ r. r.partitioned) (option_eq beq))

abbrev pub same_place : Record → Record → Bool
same_place =
    eq_of_both (on (λ r. r.path) (option_eq bytes_eq)) (on (λ r. r.domain) (option_eq bytes_eq))

abbrev pub same_life : Record → Record → Bool
same_life =
    eq_of_both (on (λ r. r.max_age) (option_eq int_eq))
    (on (λ r. r.expires) (option_eq (on end_nanos (option_eq int_eq))))

abbrev pub same_record : Record → Record → Bool
same_record = eq_of_both (eq_of_both (eq_of_both same_pair same_flags) same_place) same_life

-- of two cookies
abbrev pub same_cookie : Seen → Seen → Bool
same_cookie = on (λ s. compared s.cookie) same_record
