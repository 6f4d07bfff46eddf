-- The cookies of a request's header (RFC 6265, section 4.2.1).
use Rattle.std.specs.Prelude.{◌≡◌, ◌≢◌, ◌⊎◌, ℕ, ◌==◌, List, [], ◌∷◌, ◌++◌, Option, Some, None, Ok, Err, drop}
use Rattle.std.specs.Prelude.{Bool, true, false, not, ◌&&◌, ◌||◌, IsTrue}
use Rattle.std.specs.List.{position_or_len, starts_with}
use Rattle.std.specs.Option.{option_to_list}
use Rattle.std.specs.Str.{IsUtf8}
use Rattle.cookie.specs.Prefix.{host_text, secure_text}
use Rattle.cookie_text.specs.declared.error.ParseError.{ParseError}
use Rattle.cookie_text.specs.declared.error.ParseError.TheVariants.{OutOfMemory}
use Rattle.cookie_text.specs.Decoding.{ReadsEncoded}
use Rattle.cookie_text.specs.Pieces.{pieces}
use Rattle.cookie_text.specs.Record.{Record, Seen}

-- ---- prefixes of names that a client doesn't see (the draft that follows RFC 6265, 4.1.3)

-- the text without the spaces and tabs in front of it
abbrev pub behind_blanks : List ℕ → List ℕ
behind_blanks text = drop (position_or_len (λ b. not (b == 32 || b == 9)) text) text

-- the decoded name has the prefix, and the piece as it was sent hasn't: `%5F_Host-a=1` hides `__Host-`
abbrev pub is_hidden : List ℕ → List ℕ → List ℕ → Bool
is_hidden prefix piece name = starts_with ◌==◌ name prefix && not (starts_with ◌==◌ (behind_blanks piece) prefix)

-- so it is with one of the two prefixes
abbrev pub is_hidden_prefix : List ℕ → List ℕ → Bool
is_hidden_prefix piece name = is_hidden host_text piece name || is_hidden secure_text piece name

-- A reading passes a pair over for its prefix: the reading is the one that does, and the pair hides one. `true` is the
-- reading for sites whose users have browsers, and `false` the one that reads each pair.
abbrev pub passes_over : Bool → List ℕ → List ℕ → Bool
passes_over shown piece name = shown && is_hidden_prefix piece name

-- ---- the cookies

-- the piece reads as this cookie, but for want of memory
abbrev pub Reads : List ℕ → Record → Type 0
Reads piece cookie = (s : Seen) × ReadsEncoded piece (Ok s) × (s.cookie ≡ cookie)

-- what a piece of a header gives by a reading: the cookie as which it is read, or none where it is no text, is refused
-- or is passed over for its prefix
abbrev pub GivesBy : Bool → List ℕ → Option Record → Type 0
GivesBy shown piece (Some cookie) =
    IsUtf8 piece × Reads piece cookie × (passes_over shown piece cookie.name ≡ false)
GivesBy shown piece None =
    IsUtf8 piece
    → ((error : ParseError) × (error ≢ OutOfMemory) × ReadsEncoded piece (Err error))
    ⊎ ((cookie : Record) × Reads piece cookie × IsTrue (passes_over shown piece cookie.name))

-- the cookies that the pieces give, in order
abbrev pub GiveBy : Bool → List (List ℕ) → List Record → Type 0
GiveBy shown [] cookies = cookies ≡ []
GiveBy shown (piece ∷ later) cookies =
    (first : Option Record) × (rest : List Record) × GivesBy shown piece first × GiveBy shown later rest
    × (cookies ≡ option_to_list first ++ rest)

-- the cookies of a header by a reading: a piece that gives none is passed over
abbrev pub AreCookiesBy : Bool → List ℕ → List Record → Type 0
AreCookiesBy shown header cookies = GiveBy shown (pieces header) cookies
