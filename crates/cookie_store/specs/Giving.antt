-- The requests that a cookie goes with (RFC 6265, 5.4, step 1).
use Rattle.std.specs.Prelude.{◌≡◌, true, Some}
use Rattle.store_parts.specs.DomainMatch.{CoversAt}
use Rattle.store_parts.specs.PathMatch.{PathMatchesAt}
use Rattle.store_parts.specs.Schemes.{IsHttpScheme, IsSecure}
use Rattle.url.specs.Parts.{Parts}
use Rattle.cookie_store.specs.StoredCookie.{StoredCookie}

-- the cookie goes with a request to the URL, whether or not it has ended
pub record GoesWith (c : StoredCookie) (url : Parts) : Type 0 where
  pub path : PathMatchesAt c.path.text url
  pub domain : CoversAt c.domain url
  pub secure : c.raw.cookie.secure ≡ Some true → IsSecure url
  pub http_only : c.raw.cookie.http_only ≡ Some true → IsHttpScheme url
