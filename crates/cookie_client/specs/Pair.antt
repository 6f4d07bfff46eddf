-- Names and values that a text gives, as tests (RFC 6265, 5.2).
use Rattle.std.specs.Prelude.{◌==◌, ◌&&◌, ℕ, Bool, not, List, length}
use Rattle.std.specs.List.{list_any}
use Rattle.std.specs.Str.{bytes_eq, trim}
use Rattle.cookie_text.specs.Pieces.{equals, semicolon}

abbrev pub has_semicolon : List ℕ → Bool
has_semicolon text = list_any (λ b. b == semicolon) text

abbrev pub has_equals : List ℕ → Bool
has_equals text = list_any (λ b. b == equals) text

-- no semicolon, and no white space at an end
abbrev pub is_whole : List ℕ → Bool
is_whole text = not (has_semicolon text) && bytes_eq (trim text) text

-- so, not empty and without `=`
abbrev pub is_name : List ℕ → Bool
is_name text = (not (length text == 0) && not (has_equals text)) && is_whole text

-- such a name and such a value: what a printed cookie reads as again
abbrev pub is_read_pair : List ℕ → List ℕ → Bool
is_read_pair name value = is_name name && is_whole value
