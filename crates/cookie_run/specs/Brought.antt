-- What the rows of a client bring to a site: what is live of it, each stored name once (RFC 6265, 4.2.1 and 5.4).
use Rattle.std.specs.Prelude.{◌≡◌, ◌&&◌, ⊤, ℕ, ℤ, List, codes, true, Option, Some, None, Result}
use Rattle.std.specs.List.{filter}
use Rattle.std.specs.Str.{bytes_eq, IsUtf8}
use Rattle.cookie.specs.ByName.{HaveOwnNames, value_in}
use Rattle.cookie.specs.Sealing.{IsSealing}
use Rattle.cookie.specs.Signing.{signing}
use Rattle.cookie_text.specs.Decoding.{ReadsEncoded}
use Rattle.cookie_text.specs.Printing.{escaped}
use Rattle.cookie_text.specs.ReadingBack.{GivesPair, Pairwise}
use Rattle.cookie_text.specs.Record.{Seen}
use Rattle.cookie_text.specs.Splitting.{cookie_texts}
use Rattle.cookie_text.specs.declared.error.ParseError.{ParseError}
use Rattle.store_parts.specs.DomainMatch.{host_only}
use Rattle.url.specs.Parts.{Parts}
use Rattle.cookie_store.specs.Rows.{Row, domain_text, is_live}
use Rattle.cookie_client.specs.Header.{IsHeader}
use Rattle.cookie_client.specs.Hosts.{secure_host}
use Rattle.cookie_client.specs.Ways.{Kind, Plain, Signed, Sealed}
use Rattle.cookie_run.specs.Site.{Entry, View}

-- what stands for a value under a stored name: itself, its signing, or a sealing of it under that name
abbrev pub StandsAs : List ℕ → List ℕ → Kind → List ℕ → List ℕ → Type 0
StandsAs key name Plain value text = text ≡ value
StandsAs key name Signed value text = text ≡ signing key value
StandsAs key name Sealed value text = IsUtf8 value × IsSealing key name value text

-- a text stands for the entry, and none is there where there is no entry
abbrev pub Matches : List ℕ → List ℕ → Option (List ℕ) → Option Entry → Type 0
Matches key name None None = ⊤
Matches key name None (Some e) = ⊥
Matches key name (Some text) None = ⊥
Matches key name (Some text) (Some e) = StandsAs key name e.kind e.value text

-- names with such texts, each name once, are what a request reads of a site
pub record AreOf (key : List ℕ) (view : View) (pairs : List (List ℕ × List ℕ)) : Type 0 where
  pub once : HaveOwnNames pairs
  pub each : (name : List ℕ) → Matches key name (value_in pairs name) (view name)

-- the row holds the pair, escaped, for the host alone and the path `/`
pub record HoldsPair (host : List ℕ) (pair : List ℕ × List ℕ) (row : Row) : Type 0 where
  pub domain : row.domain ≡ host_only host
  pub path : row.path ≡ record { text = codes "/"; from_attribute = true }
  pub name : row.raw.cookie.name ≡ escaped pair.0
  pub value : row.raw.cookie.value ≡ escaped pair.1

-- the rows under a text that aren't dead
abbrev pub live_under : List ℕ → ℤ → List Row → List Row
live_under text now rows = filter (λ row. bytes_eq (domain_text row) text && is_live now row) rows

-- the header, split and decoded, gives these pairs, and no error but want of memory
abbrev pub SplitsInto : List ℕ → List (List ℕ × List ℕ) → Type 0
SplitsInto header pairs =
    (outcomes : List (Result Seen ParseError)) → Pairwise ReadsEncoded (cookie_texts header) outcomes
    → Pairwise (λ p o. GivesPair p.0 p.1 o) pairs outcomes

-- the live rows under the host, and the header of each of its https requests, are what the request reads of the site
pub record BringsSite (key host : List ℕ) (rows : List Row) (now : ℤ) (view : View) : Type 0 where
  pub pairs : List (List ℕ × List ℕ)
  pub are : AreOf key view pairs
  pub held : Pairwise (HoldsPair host) pairs (live_under host now rows)
  pub sent : (url : Parts) (header : List ℕ) → secure_host url ≡ Some host → IsHeader rows url now header
      → SplitsInto header pairs
