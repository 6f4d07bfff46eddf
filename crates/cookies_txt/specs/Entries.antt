-- What the lines of a text give where each is read by itself: a row, its domain in IDNA form (RFC 6265, 5.1.2), or a
-- fault (this repository's own).
use Rattle.std.specs.Prelude.{◌≡◌, ◌==◌, ◌+◌, ◌++◌, ℕ, Bool, List, [], ◌∷◌, drop, Option, Some, None, Result, Ok, Err}
use Rattle.std.specs.Prelude.{MatchOption, MatchResult, if◌then◌else◌, slice_index}
use Rattle.std.specs.List.{starts_with}
use Rattle.std.specs.Result.{result_map_both}
use Rattle.std.specs.Str.{is_utf8}
use Rattle.std.specs.Str.Lines.{lines}
use Rattle.cookie_text.specs.ReadingBack.{Pairwise}
use Rattle.store_parts.specs.DomainMatch.{Domain, dot, host_only, suffix, not_present, empty}
use Rattle.store_parts.specs.DomainText.{read_domain}
use Rattle.cookie_store.specs.Rows.{Row}
use Rattle.cookie_store.specs.StoredCookie.{stored_of}
use Rattle.cookies_txt.specs.Layout.{CookieLine}
use Rattle.cookies_txt.specs.Reading.{is_passed_over, read_line}
use Rattle.cookies_txt.specs.Writing.{IsRowOf}
use Rattle.cookies_txt.specs.declared.entries.Entry.{Entry}
use Rattle.cookies_txt.specs.declared.error.LineFault.{LineFault}
use Rattle.cookies_txt.specs.declared.error.LineFault.TheVariants.{Domain as NoDomain, NotText}

-- ---- a line

abbrev pub begins_with_dot : List ℕ → Bool
begins_with_dot text = slice_index text 0 == dot

-- the line with its domain in this form, which is none where it still begins with a dot
abbrev pub in_form : CookieLine → List ℕ → Result (Option CookieLine) LineFault
in_form line form = if begins_with_dot form then Err NoDomain else Ok (Some (record line { domain = form }))

-- the line with its domain in IDNA form, or the fault that there is none
abbrev pub in_idna : CookieLine → Option Domain → Result (Option CookieLine) LineFault
in_idna line None = Err NoDomain
in_idna line (Some (suffix text)) = in_form line text
in_idna line (Some (host_only text)) = Err NoDomain
in_idna line (Some not_present) = Err NoDomain
in_idna line (Some empty) = Err NoDomain

-- so; a domain that still begins with a dot, where one was left out in front, has no such form
abbrev pub said_in_idna : CookieLine → Result (Option CookieLine) LineFault
said_in_idna line = if begins_with_dot line.domain then Err NoDomain else in_idna line (read_domain line.domain)

abbrev pub with_idna : Result (Option CookieLine) LineFault → Result (Option CookieLine) LineFault
with_idna (Ok (Some line)) = said_in_idna line
with_idna (Ok None) = Ok None
with_idna (Err fault) = Err fault

-- What a line gives: a cookie, nothing where it is passed over, or its first fault. One that isn't UTF-8 is faulty,
-- unless it is passed over.
unfoldable pub given_by : List ℕ → Result (Option CookieLine) LineFault
given_by line =
    if is_utf8 line then with_idna (read_line line) else if is_passed_over line then Ok None else Err NotText

-- ---- a text

-- U+FEFF, as some editors put it in front
abbrev pub byte_order_mark : List ℕ
byte_order_mark = 239 ∷ 187 ∷ 191 ∷ []

abbrev pub without_mark : List ℕ → List ℕ
without_mark text = if starts_with ◌==◌ text byte_order_mark then drop 3 text else text

-- what the line of this number gives, unless it is passed over
abbrev pub numbered : ℕ → Result (Option CookieLine) LineFault → List (ℕ × Result CookieLine LineFault)
numbered number (Ok None) = []
numbered number (Ok (Some line)) = (number, Ok line) ∷ []
numbered number (Err fault) = (number, Err fault) ∷ []

-- what lines give of which so many were counted before
abbrev pub entries_behind : ℕ → List (List ℕ) → List (ℕ × Result CookieLine LineFault)
entries_behind count [] = []
entries_behind count (line ∷ more) = numbered (count + 1) (given_by line) ++ entries_behind (count + 1) more

-- what the lines of a text give that aren't passed over, with their numbers, counted from 1, in their order
abbrev pub entries_of : List ℕ → List (ℕ × Result CookieLine LineFault)
entries_of text = entries_behind 0 (lines (without_mark text))

-- ---- what is answered

-- a line's number, and its row or its fault
abbrev pub entry_text : Entry → ℕ × Result Row LineFault
entry_text entry = (entry.number, result_map_both stored_of (λ fault. fault) entry.row)

abbrev pub IsAnswer : Result CookieLine LineFault → Result Row LineFault → Type 0
IsAnswer (Ok line) (Ok row) = IsRowOf line row
IsAnswer (Ok line) (Err fault) = ⊥
IsAnswer (Err fault) (Ok row) = ⊥
IsAnswer (Err fault) (Err told) = told ≡ fault

-- the same number, and the row of that line, or its fault
abbrev pub IsEntry : ℕ × Result CookieLine LineFault → ℕ × Result Row LineFault → Type 0
IsEntry given answered = (answered.0 ≡ given.0) × IsAnswer given.1 answered.1

-- one for each line of the text that isn't passed over, in their order
abbrev pub GivesEntries : List ℕ → List (ℕ × Result Row LineFault) → Type 0
GivesEntries text answered = Pairwise IsEntry (entries_of text) answered

-- a step of the code, for a private contract alone: what is answered where a line gives this
abbrev pub AnswersGiven : Result (Option CookieLine) LineFault → Option (Result Row LineFault) → Type 0
AnswersGiven given answered = MatchOption answered (given ≡ Ok None) (λ answer.
    MatchResult answer (λ row. (said : CookieLine) × (given ≡ Ok (Some said)) × IsRowOf said row)
    (λ fault. given ≡ Err fault))

-- so of a line
abbrev pub AnswersLine : List ℕ → Option (Result Row LineFault) → Type 0
AnswersLine line answered = AnswersGiven (given_by line) answered

-- so, where the line says this
abbrev pub AnswersSaid : CookieLine → Result Row LineFault → Type 0
AnswersSaid said answer =
    MatchResult answer
    (λ row. (whole : CookieLine) × (said_in_idna said ≡ Ok (Some whole)) × IsRowOf whole row)
    (λ fault. said_in_idna said ≡ Err fault)
