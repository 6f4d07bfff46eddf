-- What a server and a client read from the fields of messages and put into them, and an exchange through messages.
use Rattle.std.specs.Prelude.{◌≡◌, ◌≢◌, ◌⊎◌, ◌++◌, ℕ, ℤ, Bool, List, []}
use Rattle.cookie.specs.ByName.{Lists}
use Rattle.cookie.specs.Jar.{Jar, delta, under_names}
use Rattle.cookie_client.specs.Accept.{AcceptsAll}
use Rattle.cookie_client.specs.Steps.{Visits, Arrives, OneStep, Tells}
use Rattle.cookie_client.specs.Header.{IsHeader}
use Rattle.cookie_client.specs.Jar.{ClosesWith, IsOpenedBy, Keyed, lines_of}
use Rattle.cookie_client.specs.declared.command.Command.{Command}
use Rattle.cookie_client.specs.declared.outcome.LineEnd.{LineEnd}
use Rattle.cookie_client.specs.declared.command.Reading.{Reading}
use Rattle.cookie_store.specs.Rows.{Row}
use Rattle.cookie_text.specs.Record.{Seen}
use Rattle.http_header.specs.HeaderMap.{IsHeaderMap, get_all}
use Rattle.publicsuffix.specs.Rules.{Rule}
use Rattle.url.specs.Parts.{Parts}
use Rattle.http_cookies.specs.Fields.{Fields, TakesHeader, TakesLines, IsHeaderRefusal, AreLinesRefusal, AreFieldValues}
use Rattle.http_cookies.specs.Fields.{RefusesLines, cookie_name, header_in, lines_in, set_cookie_name}
use Rattle.http_cookies.specs.Fields.{with_header, with_lines}
use Rattle.http_cookies.specs.declared.error.PutError.{PutError}
use Rattle.http_cookies.specs.declared.error.PutError.TheVariants.{Full, OutOfMemory}

-- ---- a header

-- the header of a request to the URL at the moment was put, in place of what stood there
pub record PutsHeader (rows : List Row) (url : Parts) (now : ℤ) (old new : Fields) : Type 0 where
  pub header : List ℕ
  pub is_header : IsHeader rows url now header
  pub takes : TakesHeader old header
  pub put : new ≡ with_header old header

-- why it wasn't
abbrev pub IsNoHeader : List Row → Parts → ℤ → Fields → PutError → Type 0
IsNoHeader rows url now fields error =
    (error ≡ OutOfMemory)
    ⊎ ((header : List ℕ) × IsHeader rows url now header × IsHeaderRefusal fields header error)

-- ---- lines

-- a line was appended for each change of the jar, in any order
pub record PutsDelta (jar : Jar) (old new : Fields) : Type 0 where
  pub cookies : List Seen
  pub lists : Lists (under_names cookies) (delta jar)
  pub takes : TakesLines old (lines_of cookies)
  pub put : new ≡ with_lines old (lines_of cookies)

-- why they weren't
abbrev pub IsNoDelta : Jar → Fields → PutError → Type 0
IsNoDelta jar fields error =
    (error ≡ OutOfMemory)
    ⊎ ((cookies : List Seen) × Lists (under_names cookies) (delta jar)
    × AreLinesRefusal fields (lines_of cookies) error)

-- the lines with which a session closes were appended
pub record PutsLines (jar : Jar) (old new : Fields) : Type 0 where
  pub lines : List (List ℕ)
  pub closes : ClosesWith jar lines
  pub room : ¬ (RefusesLines old lines)
  pub put : new ≡ with_lines old lines

-- why they weren't
abbrev pub AreNoLines : Jar → Fields → PutError → Type 0
AreNoLines jar fields error =
    (error ≡ OutOfMemory)
    ⊎ ((error ≡ Full) × ((lines : List (List ℕ)) × ClosesWith jar lines × RefusesLines fields lines))

-- ---- laws

-- each line with which a session closes is a field's value
abbrev pub SessionLinesAreValues : Type 0
SessionLinesAreValues = (jar : Jar) (lines : List (List ℕ)) → ClosesWith jar lines → AreFieldValues lines

-- the fields of other names are as they were
abbrev pub KeepsOthers : List ℕ → Fields → Fields → Type 0
KeepsOthers name old new = (other : List ℕ) → name ≢ other → get_all new other ≡ get_all old other

-- lines that were put are those that are received, behind those that were there
abbrev pub LinesAreReceived : Type 0
LinesAreReceived =
    (fields : Fields) (lines : List (List ℕ))
    → (lines_in (with_lines fields lines) ≡ lines_in fields ++ lines)
    × KeepsOthers set_cookie_name fields (with_lines fields lines)

-- a header that was put is the one that is opened
abbrev pub HeaderIsOpened : Type 0
HeaderIsOpened =
    (fields : Fields) (header : List ℕ) → IsHeaderMap fields
    → (header_in (with_header fields header) ≡ header)
    × KeepsOthers cookie_name fields (with_header fields header)

-- An exchange through messages: the client's header is put into a request's fields, a session is opened on them by a
-- reading, reads and sets by commands, and puts its lines into the fields of an answer that had none, which the client
-- receives. `session_of` opens by the one that passes over a pair which hides a prefix.
pub record ExchangesBy (shown : Bool) (list : List Rule) (key : List ℕ) (rows : List Row) (url : Parts) (at : ℤ)
    (commands : List Command) (told : List Reading) (arrival : ℤ) (new : List Row) : Type 0 where
  pub blank : Fields
  pub blank_is : IsHeaderMap blank
  pub request : Fields
  pub asked : PutsHeader rows url at blank request
  pub opened : Keyed
  pub opens : IsOpenedBy shown key (header_in request) opened
  pub session : Keyed
  pub tells : Tells opened at commands told session
  pub empty : Fields
  pub empty_is : lines_in empty ≡ []
  pub answer : Fields
  pub answered : PutsLines session.jar empty answer
  pub ends : List LineEnd
  pub received : AcceptsAll list rows url arrival (lines_in answer) ends new

-- it is the play's, by the same reading
abbrev pub ExchangesArePlayed : Type 0
ExchangesArePlayed =
    (shown : Bool) (list : List Rule) (key : List ℕ) (rows : List Row) (url : Parts) (at : ℤ)
    (commands : List Command) (told : List Reading) (arrival : ℤ) (new : List Row)
    → ExchangesBy shown list key rows url at commands told arrival new
    → OneStep shown list key rows (Visits url at commands (Arrives arrival)) told new
