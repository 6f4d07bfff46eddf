-- The definitions at values that RFC 6265 and its rules show.
use Rattle.std.proofs.Common.{◌≡◌, ℕ, List, [], true, false, ℤ, pos, negsuc, refl, inl}
use Rattle.std.specs.Prelude.{Some, None, codes}
use Rattle.std.specs.Str.{trim_start, trim_end}
use Rattle.idna.proofs.Computing.{idna}
use Rattle.cookie_text.specs.Record.{Record, bare, without_dot}
use Rattle.cookie_text.specs.declared.error.ParseError.TheVariants as unread
use Rattle.cookie_text.specs.declared.expiration.Expiration.TheVariants.{Session}
use Rattle.store_parts.specs.DomainMatch.{host_only, suffix, not_present, empty, text_of, text_or_empty}
use Rattle.store_parts.specs.DomainMatch.{Covers}
use Rattle.store_parts.specs.DomainOrder.{rank}
use Rattle.store_parts.specs.DomainText.{attribute_domain, read_domain, suffix_or_empty}
use Rattle.store_parts.specs.Expiry.{death, expiry_after, is_dead, seconds, epoch, latest, whole_second}
use Rattle.store_parts.specs.PathMatch.{default_path, read_path}
use Rattle.store_parts.specs.Refusals.{handed_on, of_cookie, of_idna, of_parse}
use Rattle.store_parts.specs.Schemes.{IsHttpScheme, IsSecure, IsThisHost}
use Rattle.store_parts.specs.declared.error.CookieError.TheVariants as refused
use Rattle.store_parts.specs.declared.error.Error.TheVariants as error
use Rattle.idna.specs.declared.Errors.TheVariants.{Invalid, OutOfMemory}
use Rattle.url.specs.Parts.{Parts}
use Rattle.url.specs.declared.host.Host.TheVariants.{Domain}

-- default-path, steps 2, 3 and 4 of section 5.1.4
pub default_paths : (default_path [] ≡ codes "/") × (default_path (codes "/") ≡ codes "/")
    × (default_path (codes "/foo") ≡ codes "/") × (default_path (codes "/foo/") ≡ codes "/foo")
    × (default_path (codes "/foo/bus/bar") ≡ codes "/foo/bus")
    × (default_path (codes "//foo/") ≡ codes "//foo")
default_paths = (refl, refl, refl, refl, refl, refl)

-- a path is read only where it begins with `/`
pub read_paths : (read_path [] ≡ None) × (read_path (codes "a/foo") ≡ None)
    × (read_path (codes "/a") ≡ Some (record { text = codes "/a"; from_attribute = true }))
read_paths = (refl, refl, refl)

-- one dot in front is left out
pub leading_dots : (without_dot (codes ".example.com") ≡ codes "example.com")
    × (without_dot (codes "..") ≡ codes ".") × (without_dot [] ≡ [])
leading_dots = (refl, refl, refl)

-- ten seconds after a moment, none, one before, and more than the calendar has
pub expiries : (expiry_after (seconds 10) (pos 500) ≡ pos 10_000_000_500)
    × (expiry_after (seconds 0) (pos 500) ≡ epoch) × (expiry_after (negsuc 0) (pos 500) ≡ epoch)
    × (expiry_after (seconds 9_223_372_036_854_775_807) (pos 500) ≡ latest)
expiries = (refl, refl, refl, refl)

-- a session cookie, one of ten seconds that says so beside an Expires, and one that ended before it came
abbrev ten_seconds : Record
ten_seconds = record (bare [] []) { max_age = Some (seconds 10); expires = Some Session }

pub deaths : (death (bare [] []) (pos 500) ≡ None) × (death ten_seconds (pos 500) ≡ Some (pos 10_000_000_500))
    × (death (record ten_seconds { max_age = Some (negsuc 0) }) (pos 500) ≡ Some epoch)
    × (death (record ten_seconds { max_age = None }) (pos 500) ≡ None)
deaths = (refl, refl, refl, refl)

-- a death at the moment is past, one a nanosecond later isn't
pub deads : (is_dead (pos 5) (Some (pos 5)) ≡ true) × (is_dead (pos 5) (Some (pos 6)) ≡ false)
    × (is_dead (pos 5) None ≡ false)
deads = (refl, refl, refl)

-- a second and a half after the epoch, and the nanosecond before it
pub seconds_of_moments : (whole_second (pos 1_500_000_000) ≡ pos 1) × (whole_second (negsuc 0) ≡ negsuc 0)
seconds_of_moments = (refl, refl)

-- a domain's text is there but for two kinds, and their order is that of the kinds
pub domain_texts : (text_of (suffix (codes "a.com")) ≡ Some (codes "a.com")) × (text_or_empty empty ≡ [])
    × (text_of not_present ≡ None) × (rank (host_only []) ≡ 0) × (rank empty ≡ 3)
domain_texts = (refl, refl, refl, refl, refl)

-- an empty text is no suffix, and no attribute no empty one
pub suffixes : (suffix_or_empty [] ≡ empty) × (suffix_or_empty (codes ".com") ≡ suffix (codes ".com"))
    × (attribute_domain None ≡ Some not_present)
suffixes = (refl, refl, refl)

-- the domain of a text is in small letters, without white space and one dot in front; a label that only looks like an
-- IDNA form has none
pub read_domains : (read_domain (codes " .Example.com") ≡ Some (suffix (codes "example.com")))
    × (read_domain (codes ".") ≡ Some empty) × (read_domain (codes "xn--a") ≡ None)
unfolding idna trim_start trim_end lib.Utf8.encode
read_domains = (refl, refl, refl)

-- a host alone and a suffix cover the host of their text
pub own_hosts : Covers (host_only (codes "a.com")) (codes "a.com") × Covers (suffix (codes "a.com")) (codes "a.com")
own_hosts = (refl, inl refl)

-- `https` is a scheme of HTTP and secure, and `localhost` is this host
pub https : (url : Parts) → url.scheme ≡ codes "https" → IsHttpScheme url × IsSecure url
https url is = ((codes "s", is), inl is)

pub this_host : IsThisHost (Domain (codes "localhost"))
this_host = refl

-- want of memory keeps its name, other causes are told by the call's
pub refusals : (of_parse unread.EmptyName ≡ refused.Parse) × (of_parse unread.OutOfMemory ≡ refused.OutOfMemory)
    × (of_cookie refused.Expired ≡ error.Cookie refused.Expired) × (of_cookie refused.OutOfMemory ≡ error.OutOfMemory)
    × (of_idna (handed_on Invalid) ≡ error.Idna (handed_on Invalid))
    × (of_idna (handed_on OutOfMemory) ≡ error.OutOfMemory)
refusals = (refl, refl, refl, refl, refl, refl)
