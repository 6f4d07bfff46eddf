-- Which URL answered each head: the first the given one, each further one that to which the head before it leads, where
-- that is told by a plain URL or by a plain path.
use Rattle.std.specs.Prelude.{◌≡◌, ◌⊎◌, ◌&&◌, ◌||◌, ℕ, Bool, false, true, not, List, [], ◌∷◌, Option, Some, None, Ok}
use Rattle.std.specs.Prelude.{Result, Err, codes, if◌then◌else◌, is_some, length, nat_lt}
use Rattle.std.specs.Str.{IsUtf8, bytes_eq}
use Rattle.url.specs.Input.{is_empty}
use Rattle.url.specs.Parser.{parse_url}
use Rattle.url.specs.Parts.{Parts}
use Rattle.plain_url.specs.Plain.{IsHop, IsPlainOf}
use Rattle.response_heads.specs.Heads.{GivesHeads, HeadText}
use Rattle.response_heads.specs.Read as head
use Rattle.response_heads.specs.Lines.{FieldText}
use Rattle.response_heads.specs.Read.{LocationText, announces_content, head_text, is_fold, is_success, locations}
use Rattle.response_heads.specs.Read.{is_interim, requires_proxy_authentication}
use Rattle.response_heads.specs.declared.redirects.Lost.{Lost}
use Rattle.response_heads.specs.declared.redirects.Visit.{Visit}
use Rattle.response_heads.specs.declared.error.StopFault.{StopFault}
use Rattle.response_heads.specs.declared.error.StopFault.TheVariants.{Status, Between, Unended}
use Rattle.response_heads.specs.declared.error.LocationFault.{LocationFault}
use Rattle.response_heads.specs.declared.error.LocationFault.TheVariants.{NotPlain, Several, Empty, Folded, NoField}
use Rattle.response_heads.specs.declared.error.ReadError.{ReadError}
use Rattle.response_heads.specs.declared.error.ReadError.TheVariants.{Line, OutOfMemory}

-- a head, the URL that answered it, and whether it is a proxy's, which opens a tunnel to that
pub record VisitText : Type 0 where
  pub url : Parts
  pub head : HeadText
  pub is_tunnel : Bool

abbrev pub visit_text : Visit → VisitText
visit_text visit = record { url = visit.url; head = head_text visit.head; is_tunnel = visit.is_tunnel }

-- a proxy answered, and not the URL: it opened a tunnel, or wants to know who asks
abbrev pub is_proxys : VisitText → Bool
is_proxys visit = visit.is_tunnel || requires_proxy_authentication visit.head.status

-- The Set-Cookie lines of the URL that answered, none where a proxy did, and none of an interim response, of which they
-- needn't be taken (RFC 6265, section 3).
abbrev pub visit_lines : VisitText → List (List ℕ)
visit_lines visit = if is_proxys visit || is_interim visit.head.status then [] else head.set_cookie_lines visit.head

-- ---- where a head leads

-- a Location leads from a URL to this one: it is its plain text, or an absolute path which that has as it stands
abbrev pub LeadsPlainly : Parts → List ℕ → Parts → Type 0
LeadsPlainly url text next =
    IsUtf8 text × (IsPlainOf text next ⊎ ((parse_url (Some url) text ≡ Ok next) × IsHop url next text))

-- what is wrong with a line that may be read as a Location, and is no field line
abbrev pub odd_fault : FieldText → LocationFault
odd_fault field = if is_fold field then Folded else NoField

-- with one that leads nowhere plainly
abbrev pub fault_of_one : FieldText → LocationFault
fault_of_one field =
    if is_empty field.name then odd_fault field else if is_empty field.value then Empty else NotPlain

-- with the later of two
abbrev pub fault_of_later : FieldText → LocationFault
fault_of_later field = if is_empty field.name then odd_fault field else Several

-- of two the line that misleads, and how: the first where it is no field line, else the second
abbrev pub lost_by_two : LocationText → LocationText → Lost
lost_by_two first second =
    if is_empty first.field.name then record { line = first.line; fault = odd_fault first.field }
    else record { line = second.line; fault = fault_of_later second.field }

-- Where a head with these Locations leads from a URL: where it has none nowhere else; to a URL, where it has one that
-- is plain; and else none can say where, for this line and its fault.
abbrev pub LeadsBy : Parts → List LocationText → Result Parts Lost → Type 0
LeadsBy url [] next = next ≡ Ok url
LeadsBy url (one ∷ []) (Ok next) = LeadsPlainly url one.field.value next
LeadsBy url (one ∷ []) (Err lost) =
    (lost ≡ record { line = one.line; fault = fault_of_one one.field })
    × ((next : Parts) → ¬ (LeadsPlainly url one.field.value next))
LeadsBy url (first ∷ second ∷ more) next = next ≡ Err (lost_by_two first second)

abbrev pub LeadsTo : Parts → HeadText → Result Parts Lost → Type 0
LeadsTo url head next = LeadsBy url (locations head) next

-- ---- all heads

-- The head is that of a proxy's answer to CONNECT (RFC 9110, section 9.3.6): a success that another head follows, from
-- the URL of a site that is asked through a tunnel. Such an answer has no content: so behind another success it is one
-- only where it announces none, but the first is one whatever it announces.
abbrev pub is_tunnel : Parts → Bool → HeadText → Bool → Bool
is_tunnel url is_behind_success head is_followed =
    is_success head.status && (not (is_behind_success && announces_content head)
    && (bytes_eq url.scheme (codes "https") && is_followed))

-- Behind a head, where so many are left, another follows, or a line that stops all reading, since that may be one's.
abbrev pub is_followed : ℕ → Option (ℕ × StopFault) → Bool
is_followed left stop = nat_lt 0 left || is_some stop

-- a head's visit, behind which these heads are left
abbrev pub visit_of : Parts → Bool → HeadText → List HeadText → Option (ℕ × StopFault) → VisitText
visit_of url is_behind_success head heads stop =
    record {
      url = url;
      head = head;
      is_tunnel = is_tunnel url is_behind_success head (is_followed (length heads) stop);
    }

-- The visits of heads, the first of which was answered here, or none knows where for this line, and the line for which
-- heads are left out.
abbrev pub Walks : Result Parts Lost → Bool → List HeadText → Option (ℕ × StopFault) → List VisitText → Option Lost
    → Type 0
Walks here is_behind_success [] stop visits lost = (visits ≡ []) × (lost ≡ None)
Walks (Err by) is_behind_success (head ∷ heads) stop visits lost = (visits ≡ []) × (lost ≡ Some by)
Walks (Ok url) is_behind_success (head ∷ heads) stop visits lost =
    (next : Result Parts Lost) × (rest : List VisitText) × LeadsTo url head next
    × Walks next (is_success head.status) heads stop rest lost
    × (visits ≡ visit_of url is_behind_success head heads stop ∷ rest)

-- where heads are left out behind a line, that is told, and no line further on
abbrev pub stop_behind : Option Lost → Option (ℕ × StopFault) → Option (ℕ × StopFault)
stop_behind lost stop = if is_some lost then None else stop

-- ---- the heads of a text

-- the text's first line is a status line: of a head, or of one that breaks off
abbrev pub has_begun : List HeadText → Option (ℕ × StopFault) → Bool
has_begun (head ∷ heads) stop = true
has_begun [] None = false
has_begun [] (Some (number, Status)) = false
has_begun [] (Some (number, Between)) = false
has_begun [] (Some (number, Unended)) = true

-- a text's heads, where its first line is a status line, and the line at which reading stops
pub record HasHeads (text : List ℕ) (heads : List HeadText) (stop : Option (ℕ × StopFault)) : Type 0 where
  pub gives : GivesHeads text heads stop
  pub some : has_begun heads stop ≡ true

-- the visits of a text's heads, the line for which heads are left out, and that at which reading stops
pub record GivesVisits (url : Parts) (text : List ℕ) (visits : List VisitText) (lost : Option Lost)
    (stopped : Option (ℕ × StopFault)) : Type 0 where
  pub heads : List HeadText
  pub stop : Option (ℕ × StopFault)
  pub has : HasHeads text heads stop
  pub walks : Walks (Ok url) false heads stop visits lost
  pub told : stopped ≡ stop_behind lost stop

-- Of the heads of one hop the last counts: what stands before it are interim responses, a proxy's answers, and tries
-- before the last. Where reading stops none does.
abbrev pub last_visits : Parts → List HeadText → Bool → List VisitText
last_visits url [] is_stopped = []
last_visits url (head ∷ []) is_stopped =
    if is_stopped then [] else (record { url = url; head = head; is_tunnel = false }) ∷ []
last_visits url (head ∷ next ∷ more) is_stopped = last_visits url (next ∷ more) is_stopped

-- the visit of a text's last head, where this URL alone was asked, or none, and the line at which reading stops
pub record GivesAnswer (url : Parts) (text : List ℕ) (visits : List VisitText) (stop : Option (ℕ × StopFault))
    : Type 0 where
  pub heads : List HeadText
  pub has : HasHeads text heads stop
  pub last : visits ≡ last_visits url heads (is_some stop)

-- why visits aren't told: for want of memory, or the text's first line is no status line
abbrev pub IsVisitRefusal : List ℕ → ReadError → Type 0
IsVisitRefusal text e =
    (e ≡ OutOfMemory)
    ⊎ ((stop : Option (ℕ × StopFault)) × GivesHeads text [] stop × (has_begun [] stop ≡ false) × (e ≡ Line 1 Status))
