-- No definition, but a proof, which stands here because the law of `PartialEq` cites it: `==` is an equivalence.
use Rattle.std.specs.Cmp.{IsEquivalence, on_equiv, and_equiv, bool_eq_equiv, int_eq_equiv, nat_eq_equiv}
use Rattle.std.specs.Cmp.Lexicographic.{options_equiv, nat_list_eq_equiv}
use Rattle.cookie_text.specs.SameEquivalence.{same_cookie_equiv}
use Rattle.store_parts.specs.DomainOrder.{domain_eq, kind_of, shown_text}
use Rattle.store_parts.specs.Expiry.{death_second}
use Rattle.store_parts.specs.PathMatch.{path_of}
use Rattle.store_parts.specs.PathOrder.{path_eq}
use Rattle.cookie_store.specs.Same.{same_stored}

path_equiv : IsEquivalence path_eq
path_equiv =
    and_equiv (on_equiv (λ p. (path_of p).text) nat_list_eq_equiv)
    (on_equiv (λ p. (path_of p).from_attribute) bool_eq_equiv)

domain_equiv : IsEquivalence domain_eq
domain_equiv = and_equiv (on_equiv kind_of nat_eq_equiv) (on_equiv shown_text nat_list_eq_equiv)

-- `==` is an equivalence
pub same_stored_equiv : IsEquivalence same_stored
same_stored_equiv =
    and_equiv
    (and_equiv (on_equiv (λ c. c.raw_cookie) same_cookie_equiv) (on_equiv (λ c. c.path) path_equiv))
    (and_equiv (on_equiv (λ c. c.domain) domain_equiv)
    (on_equiv (λ c. death_second c.expires) (options_equiv int_eq_equiv)))
