-- How the text of a cookie is cut (RFC 6265, section 5.2).
use Rattle.std.specs.Prelude.{◌≢◌, ℕ, ◌<◌, ◌==◌, List, length, Option, Some, None, nat_lt, if◌then◌else◌}
use Rattle.std.specs.List.{All, slice_split, before_first, after_first, position_or_len}
use Rattle.std.specs.Str.{trim}
use Rattle.percent_encoding.specs.Percent.{percent_sign}

-- `b';'`
abbrev pub semicolon : ℕ
semicolon = 59

-- `b'='`
abbrev pub equals : ℕ
equals = 61

-- `b'-'`
abbrev pub minus : ℕ
minus = 45

-- `b'.'`
abbrev pub full_stop : ℕ
full_stop = 46

-- `b'"'`
abbrev pub double_quote : ℕ
double_quote = 34

-- the text holds no `%`
abbrev pub HasNoPercent : List ℕ → Type 0
HasNoPercent text = All (λ b. b ≢ percent_sign) text

-- the parts of the text between its semicolons: `a=1; Path=/` has the pieces `a=1` and ` Path=/`
abbrev pub pieces : List ℕ → List (List ℕ)
pieces text = slice_split (λ b. b == semicolon) text

-- the piece holds an `=`
abbrev pub HasEquals : List ℕ → Type 0
HasEquals piece = position_or_len (λ b. b == equals) piece < length piece

-- what stands before the first `=`, or all of it, without the white space round it: `Path` of ` Path=/`
unfoldable pub name_of : List ℕ → List ℕ
name_of piece = trim (before_first (λ b. b == equals) piece)

-- what stands after the first `=`, without the white space round it: `/` of ` Path=/`
unfoldable pub text_after : List ℕ → List ℕ
text_after piece = trim (after_first (λ b. b == equals) piece)

-- the same, where there is an `=`
unfoldable pub value_of : List ℕ → Option (List ℕ)
value_of piece =
    if nat_lt (position_or_len (λ b. b == equals) piece) (length piece)
    then Some (text_after piece) else None
