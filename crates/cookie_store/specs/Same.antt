-- When two cookies of a store are equal.
use Rattle.std.specs.Prelude.{◌≡◌, Bool}
use Rattle.std.specs.Option.{option_eq}
use Rattle.std.specs.Ordering.{int_eq, on, eq_of_both}
use Rattle.cookie_text.specs.Record.{compared}
use Rattle.cookie_text.specs.Same.{same_cookie}
use Rattle.store_parts.specs.DomainMatch.{domain_of}
use Rattle.store_parts.specs.DomainOrder.{domain_eq}
use Rattle.store_parts.specs.Expiry.{death_second}
use Rattle.store_parts.specs.PathMatch.{path_of}
use Rattle.store_parts.specs.PathOrder.{path_eq}
use Rattle.cookie_store.specs.declared.stored_cookie.Cookie.{Cookie}

-- in all four parts: the cookies as `==` on them tells, paths and domains exactly, ends to the second
pub record AreSame (a b : Cookie) : Type 0 where
  pub received : compared a.raw_cookie.cookie ≡ compared b.raw_cookie.cookie
  pub path : path_of a.path ≡ path_of b.path
  pub domain : domain_of a.domain ≡ domain_of b.domain
  pub end : death_second a.expires ≡ death_second b.expires

-- what `==` answers
abbrev pub same_stored : Cookie → Cookie → Bool
same_stored =
    eq_of_both (eq_of_both (on (λ c. c.raw_cookie) same_cookie) (on (λ c. c.path) path_eq))
    (eq_of_both (on (λ c. c.domain) domain_eq)
    (on (λ c. death_second c.expires) (option_eq int_eq)))
