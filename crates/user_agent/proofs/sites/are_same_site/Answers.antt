use Rattle.std.proofs.Common.{◌≡◌, ◌∙◌, Some, sym}
use Rattle.std.proofs.lemmas.Slice.Eq.{bytes_eq-Decides}
use Rattle.store_parts.specs.Schemes.{host_of}
use Rattle.user_agent.proofs.SiteLemmas.{domains_are, same_where}
use Rattle.user_agent.proofs.sites.are_same_site.Goals as goal

pub returns-then-eq : goal.returns-then-eq
returns-then-eq c =
    let once = c.one_registrable_domain.ensures.one in
    let list = c.args.store.now.suffixes in
    let one = c.args.one.now in
    let other = c.args.other.now in
    let a = c.in-Some-Some.a.now in
    let b = c.in-Some-Some.b.now in
    let at_one : host_of one ≡ Some a = sym c.in-Some-Some.ensures in
    let at_other : host_of other ≡ Some b = sym c.in-Some-Some.ensures' in
    let p = c.site_domain.result.now in
    let q = c.site_domain-then-eq.result.now in
    let scheme : one.scheme ≡ other.scheme =
    sym c.scheme.ensures.value ∙ ((bytes_eq-Decides c.scheme.result.now c.scheme-in-Some-Some.result.now).0
    (sym c.if-eq.ensures) ∙ c.scheme-in-Some-Some.ensures.value) in (
      (λ yes. same_where once list one other a b p q at_one at_other
          c.site_domain.ensures c.site_domain-then-eq.ensures scheme
          ((bytes_eq-Decides p q).0 (sym c.eq-then-eq.ensures ∙ yes))),
      (λ is. c.eq-then-eq.ensures ∙ (bytes_eq-Decides p q).1 (domains_are once list one other a b p
          q at_one at_other c.site_domain.ensures c.site_domain-then-eq.ensures is)),
    )
