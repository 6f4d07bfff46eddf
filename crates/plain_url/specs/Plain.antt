-- Plain URLs: web addresses (the URL Standard, section 4) that each reader of URLs reads alike (this repository's own).
use Rattle.std.specs.Prelude.{◌≡◌, ◌⊎◌, ◌++◌, ◌||◌, ◌&&◌, ◌==◌, ℕ, Bool, List, [], None, Ok, codes, drop, length, map}
use Rattle.std.specs.Prelude.{take, true}
use Rattle.std.specs.Char.{is_ascii_alphanumeric, to_ascii_lowercase}
use Rattle.std.specs.List.{list_all}
use Rattle.std.specs.Str.{bytes_eq}
use Rattle.url.specs.Parser.{parse_url}
use Rattle.url.specs.Parts.{Parts, serialize, text_between}
use Rattle.url.specs.declared.slicing.Position.TheVariants.{BeforeScheme, BeforeUsername, BeforeHost, AfterHost}
use Rattle.url.specs.declared.slicing.Position.TheVariants.{AfterPort, BeforePath, AfterFragment}

-- the texts differ in the case of ASCII letters at most (RFC 3986, section 6.2.2.1)
abbrev pub SameInAnyCase : List ℕ → List ℕ → Type 0
SameInAnyCase a b = map to_ascii_lowercase a ≡ map to_ascii_lowercase b

-- the scheme, `://` and the authority
abbrev pub site : Parts → List ℕ
site url = text_between url BeforeScheme AfterPort

-- the path, the query and the fragment, with their delimiters
abbrev pub target : Parts → List ℕ
target url = text_between url BeforePath AfterFragment

-- A byte that each reader takes for one of a host: unreserved (RFC 3986, section 2.3), or a bracket or colon of an IPv6
-- address (section 3.2.2). The URL Standard has more, as braces, which curl takes for a set of URLs.
abbrev pub is_host_byte : ℕ → Bool
is_host_byte b =
    is_ascii_alphanumeric b || (b == 45 || b == 46 || b == 95 || b == 126) || (b == 91 || b == 93 || b == 58)

-- the host's text
abbrev pub host : Parts → List ℕ
host url = text_between url BeforeHost AfterHost

abbrev pub HasPlainHost : Parts → Type 0
HasPlainHost url = list_all is_host_byte (host url) ≡ true

-- the scheme is one of the web, and each byte of the host one that each reader takes for one
abbrev pub IsWeb : Parts → Type 0
IsWeb url = ((url.scheme ≡ codes "http") ⊎ (url.scheme ≡ codes "https")) × HasPlainHost url

-- no user name and no password
abbrev pub HasNoUser : Parts → Type 0
HasNoUser url = (url.username ≡ []) × (url.password ≡ [])

-- the text is the URL's path, query and fragment, but that the path `/` alone may be left out (section 6.2.3)
abbrev pub IsTargetOf : List ℕ → Parts → Type 0
IsTargetOf text url = (text ≡ target url) ⊎ ((text ≡ []) × (target url ≡ codes "/"))

-- The text is this web URL's own: what it says is what the URL's own text says, byte for byte behind the authority, and
-- up to there but for case.
pub record IsOwnText (text : List ℕ) (url : Parts) : Type 0 where
  pub web : IsWeb url
  pub user : HasNoUser url
  pub same_site : SameInAnyCase (take (length (site url)) text) (site url)
  pub same_target : IsTargetOf (drop (length (site url)) text) url

-- the same as a test
abbrev pub is_own_text : List ℕ → Parts → Bool
is_own_text text url =
    let front = take (length (site url)) text in
    let rest = drop (length (site url)) text in
    ((bytes_eq url.scheme (codes "http") || bytes_eq url.scheme (codes "https")) && list_all is_host_byte (host url))
    && ((bytes_eq url.username [] && bytes_eq url.password [])
    && (bytes_eq (map to_ascii_lowercase front) (map to_ascii_lowercase (site url))
    && (bytes_eq rest (target url) || bytes_eq rest [] && bytes_eq (target url) (codes "/"))))

-- a plain text, and its URL
abbrev pub IsPlainOf : List ℕ → Parts → Type 0
IsPlainOf text url = (parse_url None text ≡ Ok url) × IsOwnText text url

abbrev pub IsPlain : List ℕ → Type 0
IsPlain text = (url : Parts) × IsPlainOf text url

-- A reference that leads from a page to another URL of its site, of which it is the path, query and fragment as they
-- stand (RFC 3986, section 5.2.2, of an absolute path).
abbrev pub IsHop : Parts → Parts → List ℕ → Type 0
IsHop page hop location = (site hop ≡ site page) × (target hop ≡ location)

-- the URL's text without user name and password
abbrev pub without_user : Parts → List ℕ
without_user url = text_between url BeforeScheme BeforeUsername ++ text_between url BeforeHost AfterFragment

-- the URL of a text is one of the web without a user
abbrev pub IsBareWeb : List ℕ → Parts → Type 0
IsBareWeb text url = (parse_url None text ≡ Ok url) × IsWeb url × HasNoUser url

-- What to ask for in the place of a text: the text itself where it is plain, and else the text of its URL, which is one
-- of the web without a user.
abbrev pub IsPlainFor : List ℕ → List ℕ → Type 0
IsPlainFor text plain =
    (IsPlain text × (plain ≡ text))
    ⊎ (¬ (IsPlain text) × ((url : Parts) × IsBareWeb text url × (plain ≡ serialize url)))

-- there is none
abbrev pub HasNoPlain : List ℕ → Type 0
HasNoPlain text = (url : Parts) → ¬ (IsBareWeb text url)
