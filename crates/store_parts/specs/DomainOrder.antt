-- How the domains of cookies compare and hash: by kind and by text.
use Rattle.std.specs.Prelude.{◌==◌, ◌++◌, ℕ, List, Bool}
use Rattle.std.specs.declared.cmp.Ordering.{Ordering}
use Rattle.std.specs.Cmp.Lexicographic.{pointwise, slice_cmp}
use Rattle.std.specs.Hash as fed
use Rattle.std.specs.Ordering.{nat_cmp, on, then_cmp, eq_of_both}
use Rattle.store_parts.specs.declared.cookie_domain.CookieDomain.{CookieDomain}
use Rattle.store_parts.specs.DomainMatch.{Domain, host_only, suffix, not_present, empty, text_or_empty, domain_of}

-- where the kind of a domain stands among the four
abbrev pub rank : Domain → ℕ
rank (host_only host) = 0
rank (suffix domain) = 1
rank not_present = 2
rank empty = 3

-- the kind and the text of a `CookieDomain`, empty where it has none
abbrev pub kind_of : CookieDomain → ℕ
kind_of domain = rank (domain_of domain)

abbrev pub shown_text : CookieDomain → List ℕ
shown_text domain = text_or_empty (domain_of domain)

-- by kind, then by text
abbrev pub domain_cmp : CookieDomain → CookieDomain → Ordering
domain_cmp = then_cmp (on kind_of nat_cmp) (on shown_text (slice_cmp nat_cmp))

-- equal in both
abbrev pub domain_eq : CookieDomain → CookieDomain → Bool
domain_eq = eq_of_both (on kind_of ◌==◌) (on shown_text (pointwise ◌==◌))

-- what a hasher is fed
abbrev pub domain_input : CookieDomain → List (List ℕ)
domain_input domain = fed.u8 (kind_of domain) ++ fed.str (shown_text domain)
