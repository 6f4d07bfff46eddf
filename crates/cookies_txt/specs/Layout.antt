-- The layout of Netscape's `cookies.txt`, as curl documents it (docs/DEFINITIONS.md).
use Rattle.std.specs.Prelude.{◌==◌, ◌&&◌, ◌||◌, ℕ, Bool, true, false, not, List, [], ◌∷◌, ◌++◌, codes, if◌then◌else◌}
use Rattle.std.specs.Fmt.{decimal}
use Rattle.std.specs.List.{flat_map, join_with_byte}
use Rattle.store_parts.specs.DomainMatch.{dot}
use Rattle.cookies_txt.specs.declared.readers.Reader.{Reader}
use Rattle.cookies_txt.specs.declared.readers.Reader.TheVariants.{Curl, Wget, Python}

-- What a line says of a cookie: whether it is HttpOnly; its domain, and whether the hosts below that count; its path;
-- whether it is Secure; its expiry in whole seconds since 1970, 0 for none; name and value.
pub record CookieLine : Type 0 where
  pub http_only : Bool
  pub domain : List ℕ
  pub below : Bool
  pub path : List ℕ
  pub secure : Bool
  pub expires : ℕ
  pub name : List ℕ
  pub value : List ℕ

-- `b'\t'`
abbrev pub tab : ℕ
tab = 9

-- `#HttpOnly_`
abbrev pub http_only_mark : List ℕ
http_only_mark = codes "#HttpOnly_"

-- a text, or nothing
abbrev pub when : Bool → List ℕ → List ℕ
when b text = if b then text else []

-- `TRUE` or `FALSE`
abbrev pub flag_text : Bool → List ℕ
flag_text b = if b then codes "TRUE" else codes "FALSE"

-- The reader knows the mark of HttpOnly. wget takes a line that begins with it for a comment.
abbrev pub knows_mark : Reader → Bool
knows_mark Curl = true
knows_mark Wget = false
knows_mark Python = true

-- The reader takes 0 for no expiry. `MozillaCookieJar` of Python takes it for the first second of 1970, and nothing for
-- none.
abbrev pub knows_zero : Reader → Bool
knows_zero Curl = true
knows_zero Wget = true
knows_zero Python = false

-- what is written of a line for a reader: all of it, but HttpOnly for one that doesn't know the mark
abbrev pub kept_for : Reader → CookieLine → CookieLine
kept_for reader line = record line { http_only = knows_mark reader && line.http_only }

-- the domain, with a dot in front where the hosts below it count, behind the mark of HttpOnly
abbrev pub domain_field : Reader → CookieLine → List ℕ
domain_field reader line =
    when (knows_mark reader && line.http_only) http_only_mark ++ (when line.below (dot ∷ []) ++ line.domain)

abbrev pub expiry_field : Reader → ℕ → List ℕ
expiry_field reader second = when (not (second == 0) || knows_zero reader) (decimal second)

-- the seven fields
abbrev pub fields_of_line : Reader → CookieLine → List (List ℕ)
fields_of_line reader line =
    domain_field reader line ∷ flag_text line.below ∷ line.path ∷ flag_text line.secure
    ∷ expiry_field reader line.expires ∷ line.name ∷ line.value ∷ []

-- the fields, parted by tabs
unfoldable pub line_text : Reader → CookieLine → List ℕ
line_text reader line = join_with_byte tab (fields_of_line reader line)

-- a comment and an empty line, then a line for each cookie
abbrev pub heading_text : List ℕ
heading_text = codes "# Netscape HTTP Cookie File" ++ 10 ∷ 10 ∷ []

abbrev pub text_for : Reader → List CookieLine → List ℕ
text_for reader all = heading_text ++ flat_map (λ line. line_text reader line ++ 10 ∷ []) all

-- the format as curl documents it
abbrev pub cookies_txt : List CookieLine → List ℕ
cookies_txt all = text_for Curl all
