-- What RFC 3986 (section 3) reads in a text, with no look at how the URL Standard parses one.
use Rattle.std.specs.Prelude.{ℕ, ◌||◌, ◌==◌, Bool, not, List, take}
use Rattle.std.specs.List.{prefix_len}

-- The authority ends at the first `/`, `?` or `#` (section 3.2).
abbrev pub is_in_authority : ℕ → Bool
is_in_authority b = not (b == 47 || b == 63 || b == 35)

-- the authority of what follows `://`
abbrev pub authority_of : List ℕ → List ℕ
authority_of bytes = take (prefix_len is_in_authority bytes) bytes
