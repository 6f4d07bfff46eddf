-- The items of a list of RON, each as it stands (this repository's own; RON's brackets, strings and white space are
-- those of saved_text's grammar).
use Rattle.std.specs.Prelude.{◌==◌, ◌&&◌, ◌||◌, ◌+◌, ◌-◌, ◌++◌, ℕ, Bool, true, false, not, List, [], ◌∷◌, Option}
use Rattle.std.specs.Prelude.{Some, None, drop, if◌then◌else◌, option_map}
use Rattle.std.specs.List.{list_all, prefix_len}
use Rattle.saved_text.specs.Letters.{is_space}
use Rattle.cookie_jar.specs.declared.ron_items.At.{At}

-- ---- where a scan stands

-- outside of strings and of further brackets
abbrev pub start : At
start = record { is_string = false; is_escape = false; depth = 0 }

abbrev pub is_free : At → Bool
is_free at = not at.is_string && at.depth == 0

-- `(`, `[` and `{`
abbrev pub is_opening : ℕ → Bool
is_opening b = b == 40 || (b == 91 || b == 123)

-- `)`, `]` and `}`
abbrev pub is_closing : ℕ → Bool
is_closing b = b == 41 || (b == 93 || b == 125)

-- behind a byte of a string, which a `"` ends unless a backslash stands before it
abbrev pub behind_letter : At → ℕ → At
behind_letter at b = record {
  is_string = at.is_escape || not (b == 34);
  is_escape = not at.is_escape && b == 92;
  depth = at.depth;
}

-- behind one byte more
abbrev pub behind : At → ℕ → At
behind at b =
    if at.is_string then behind_letter at b
    else if b == 34 then record at { is_string = true }
    else if is_opening b then record at { depth = at.depth + 1 }
    else if is_closing b then record at { depth = at.depth - 1 }
    else at

-- ---- white space

abbrev pub is_blank : List ℕ → Bool
is_blank text = list_all is_space text

-- the text without the white space in front
abbrev pub unspaced : List ℕ → List ℕ
unspaced text = drop (prefix_len is_space text) text

-- ---- the items

-- Items, and the last one before the bracket that closes the list, which is none where it is white space alone; none
-- where more than white space stands behind that.
abbrev pub with_last : List (List ℕ) → List ℕ → List ℕ → Option (List (List ℕ))
with_last items last behind =
    if is_blank behind then Some (items ++ (if is_blank last then [] else last ∷ [])) else None

-- The items from a place on, of which the first begins with this front. There are none where a comment stands there,
-- which outside of strings begins with `/`, or where no bracket closes the list.
unfoldable pub items_from : At → List ℕ → List ℕ → Option (List (List ℕ))
items_from at front [] = None
items_from at front (b ∷ bs) =
    if not at.is_string && b == 47 then None
    else if is_free at && b == 44 then option_map (λ more. front ∷ more) (items_from start [] bs)
    else if is_free at && b == 93 then with_last [] front bs
    else items_from (behind at b) (front ++ b ∷ []) bs

-- behind the bracket that opens the list
abbrev pub items_behind : List ℕ → Option (List (List ℕ))
items_behind [] = None
items_behind (b ∷ bs) = if b == 91 then items_from start [] bs else None

-- of a text
unfoldable pub items_of : List ℕ → Option (List (List ℕ))
items_of text = items_behind (unspaced text)
