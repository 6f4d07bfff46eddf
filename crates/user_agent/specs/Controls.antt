-- What a line without a control character leaves (the draft that follows RFC 6265, section 5.6, step 1), and that a
-- header behind that rule has none.
use Rattle.std.specs.Prelude.{◌≡◌, ℕ, ℤ, false, List, IfSome, IsTrue, Ok}
use Rattle.std.specs.List.{list_any}
use Rattle.std.specs.Str.{IsUtf8}
use Rattle.publicsuffix.specs.Rules.{Rule}
use Rattle.url.specs.Parts.{Parts}
use Rattle.cookie_text.specs.Reading.{ReadsPlain}
use Rattle.cookie_text.specs.Record.{Record, Seen}
use Rattle.cookie_store.specs.Rows.{Row}
use Rattle.user_agent.specs.Agent.{IsHandedOn}
use Rattle.user_agent.specs.CrossSite.{IsHeaderFor}
use Rattle.user_agent.specs.Headers.{IsHeaderBehind}
use Rattle.user_agent.specs.Refusals.{is_control}
use Rattle.user_agent.specs.declared.rules.Rules.{Rules}
use Rattle.user_agent.specs.declared.sites.Initiator.{Initiator}

-- the text has no control character
abbrev pub IsFree : List ℕ → Type 0
IsFree text = list_any is_control text ≡ false

-- neither have the cookie's name and value, nor its path
pub record IsFreeCookie (cookie : Record) : Type 0 where
  pub name : IsFree cookie.name
  pub value : IsFree cookie.value
  pub path : IfSome cookie.path IsFree

-- whatever rules are on, such a line is handed on without one
abbrev pub FreeLinesStay : Type 0
FreeLinesStay =
    (rules : Rules) (now : ℤ) (line handed : List ℕ) → IsFree line → IsHandedOn rules now line handed → IsFree handed

-- and so is the cookie that such a line reads as
abbrev pub FreeLinesRead : Type 0
FreeLinesRead =
    (line : List ℕ) (seen : Seen) → IsFree line → IsUtf8 line → ReadsPlain line (Ok seen) → IsFreeCookie seen.cookie

-- where the rule is on, the header of a request has none, whatever rows there are
abbrev pub HeadersAreFree : Type 0
HeadersAreFree =
    (rules : Rules) (rows : List Row) (url : Parts) (now : ℤ) (header : List ℕ) → IsTrue rules.control
    → IsHeaderBehind rules rows url now header → IsFree header

-- and so it is whatever starts the request
abbrev pub StartedHeadersAreFree : Type 0
StartedHeadersAreFree =
    (rules : Rules) (list : List Rule) (rows : List Row) (url : Parts) (initiator : Initiator) (now : ℤ)
    (header : List ℕ) → IsTrue rules.control → IsHeaderFor rules list rows url initiator now header → IsFree header
