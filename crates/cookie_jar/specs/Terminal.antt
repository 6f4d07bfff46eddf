-- Characters on which a terminal acts, and texts without them (this repository's own).
use Rattle.std.specs.Prelude.{◌≡◌, ◌==◌, ◌||◌, ◌&&◌, ℕ, Bool, List, [], ◌∷◌, if◌then◌else◌, nat_le, nat_lt, not, true}
use Rattle.std.specs.List.{flat_map, list_all}
use Rattle.percent_encoding.specs.Percent.{percent_encode_byte}
use Rattle.std.specs.Str.{chars}

-- C0, DEL and C1 (ISO/IEC 6429)
abbrev pub is_control_code : ℕ → Bool
is_control_code c = nat_lt c 32 || (nat_le 127 c && nat_le c 159)

-- a mark of bidirectional text (UAX #9, section 2): U+061C, U+200E, U+200F, U+202A to U+202E, U+2066 to U+2069
abbrev pub is_mark : ℕ → Bool
is_mark c =
    c == 1564
    || (c == 8206
    || (c == 8207
    || ((nat_le 8234 c && nat_le c 8238)
    || (nat_le 8294 c && nat_le c 8297))))

abbrev pub is_acted_on : ℕ → Bool
is_acted_on c = is_control_code c || is_mark c

-- every byte that isn't printable ASCII, and `%`
abbrev pub is_hidden : ℕ → Bool
is_hidden b = nat_lt b 32 || nat_lt 126 b || b == 37

-- the text with each such byte as `%` and two upper-case digits
abbrev pub shown : List ℕ → List ℕ
shown text = flat_map (λ b. if is_hidden b then percent_encode_byte b else b ∷ []) text

-- printable ASCII, a tab, a line feed
abbrev pub is_plain : ℕ → Bool
is_plain b = b == 9 || (b == 10 || (nat_le 32 b && nat_lt b 127))

-- a tab, a line feed, or a character on which no terminal acts
abbrev pub is_let : ℕ → Bool
is_let c = c == 9 || (c == 10 || not (is_acted_on c))

-- words of the program's own
abbrev pub ArePlain : List ℕ → Type 0
ArePlain words = list_all is_plain words ≡ true

-- no terminal acts on the text
abbrev pub ShowsNoControl : List ℕ → Type 0
ShowsNoControl text = list_all is_let (chars text) ≡ true
