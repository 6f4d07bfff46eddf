-- Sites of URLs.
use Rattle.std.proofs.Common.{◌≡◌, ◌⊎◌, ◌∙◌, ◌↔◌, ℕ, List, None, Option, Some, ap, inl, inr, refl, subst, sym}
use Rattle.std.specs.Prelude.{IsSomeAnd}
use Rattle.publicsuffix.specs.Rules.{Rule}
use Rattle.store_parts.specs.Schemes.{host_of}
use Rattle.url.specs.Parts.{Parts}
use Rattle.publicsuffix.specs.Prevailing.{IsName, without_last_dot}
use Rattle.publicsuffix.specs.Registrable.{IsSuffixItself, NoSuffixHasOne, OneIsRegistrable}
use Rattle.user_agent.specs.Sites.{AreSameSite, HasDomain, IsSiteDomain, IsSiteOf, Site}

module _ (once : OneIsRegistrable) (list : List Rule) where
  pub one_domain : (host one other : List ℕ) → IsSiteDomain list host one → IsSiteDomain list host other → one ≡ other
  one_domain host one other (inl a) (inl b) = once list host one other a.registrable b.registrable
  one_domain host one other (inl a) (inr b) = absurd (b.0 one a)
  one_domain host one other (inr a) (inl b) = absurd (a.0 other b)
  one_domain host one other (inr a) (inr b) = a.1 ∙ sym b.1

  domain_at : (url : Parts) (host domain : List ℕ) (site : Site) → host_of url ≡ Some host
      → IsSiteDomain list host domain → IsSiteOf list url site → site.domain ≡ domain
  domain_at url host domain site at is of =
      one_domain host site.domain domain
      (subst (λ found. IsSomeAnd found (λ text. IsSiteDomain list text site.domain)) at of.1) is

  -- URLs with hosts are of one site where scheme and domain are the same
  pub same_where : (one other : Parts) (a b p q : List ℕ) → host_of one ≡ Some a → host_of other ≡ Some b
      → IsSiteDomain list a p → IsSiteDomain list b q → one.scheme ≡ other.scheme → p ≡ q → AreSameSite list one other
  same_where one other a b p q at_one at_other is_p is_q scheme same = (
    record { scheme = one.scheme; domain = p },
    (refl, subst (λ found. IsSomeAnd found (λ text. IsSiteDomain list text p)) (sym at_one) is_p),
    (
      scheme,
      subst (λ found. IsSomeAnd found (λ text. IsSiteDomain list text p)) (sym at_other)
          (subst (IsSiteDomain list b) (sym same) is_q),
    ),
  )

  pub schemes_are : (one other : Parts) → AreSameSite list one other → one.scheme ≡ other.scheme
  schemes_are one other (site, of_one, of_other) = sym of_one.0 ∙ of_other.0

  pub domains_are : (one other : Parts) (a b p q : List ℕ) → host_of one ≡ Some a → host_of other ≡ Some b
      → IsSiteDomain list a p → IsSiteDomain list b q → AreSameSite list one other → p ≡ q
  domains_are one other a b p q at_one at_other is_p is_q (site, of_one, of_other) =
      sym (domain_at one a p site at_one is_p of_one) ∙ domain_at other b q site at_other is_q of_other

pub hosts_are : (list : List Rule) (one other : Parts) → AreSameSite list one other
    → (¬ (host_of one ≡ None)) × (¬ (host_of other ≡ None))
hosts_are list one other (site, of_one, of_other) = (
  (λ none. subst (λ found. IsSomeAnd found (λ text. IsSiteDomain list text site.domain)) none of_one.1),
  (λ none. subst (λ found. IsSomeAnd found (λ text. IsSiteDomain list text site.domain)) none of_other.1),
)

-- a host that is no name or a public suffix itself has no registrable domain
pub no_domain : NoSuffixHasOne → (list : List Rule) (host other : List ℕ)
    → ((¬ (IsName (without_last_dot host))) ⊎ IsSuffixItself list host) → ¬ (HasDomain list host other)
no_domain none list host other (inl no_name) has = no_name has.registrable.is_name
no_domain none list host other (inr itself) has = none list host other itself has.registrable
