-- The cookies of a header, computed: `ReadCode` shows that they are the ones that its pieces give.
use Rattle.std.specs.Prelude.{ℕ, List, [], ◌∷◌, Bool, ◌&&◌, Option, Some, None, if◌then◌else◌}
use Rattle.std.specs.List.{filter_map}
use Rattle.std.specs.Str.{is_utf8}
use Rattle.percent_encoding.specs.Percent.{percent_decode}
use Rattle.cookie_text.specs.Pieces.{pieces, name_of, value_of}
use Rattle.cookie_text.specs.Record.{Record, bare}
use Rattle.cookie_client.specs.Reading.{passes_over}

-- name and value percent-decoded, where both are texts then
abbrev pub decoded : List ℕ → List ℕ → Option Record
decoded name value =
    if is_utf8 (percent_decode name) && is_utf8 (percent_decode value)
    then Some (bare (percent_decode name) (percent_decode value))
    else None

-- the same, where there is a value and the name isn't empty
abbrev pub pair_in : List ℕ → Option (List ℕ) → Option Record
pair_in name None = None
pair_in [] (Some value) = None
pair_in (b ∷ bs) (Some value) = decoded (b ∷ bs) value

-- the cookie of a piece by a reading, where that doesn't pass it over for its prefix
abbrev pub shown_by : Bool → List ℕ → Option Record → Option Record
shown_by shown piece None = None
shown_by shown piece (Some cookie) = if passes_over shown piece cookie.name then None else Some cookie

-- a piece of a header by a reading, where it is a text and reads
abbrev pub cookie_by : Bool → List ℕ → Option Record
cookie_by shown piece =
    if is_utf8 piece then shown_by shown piece (pair_in (name_of piece) (value_of piece)) else None

-- the cookies of a header by a reading
abbrev pub cookies_by : Bool → List ℕ → List Record
cookies_by shown header = filter_map (cookie_by shown) (pieces header)
