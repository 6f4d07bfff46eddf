-- Two hosts of one play: the premises of the headline can be met.
use Rattle.std.proofs.Common.{◌≡◌, ◌≢◌, ◌⊎◌, ◌<◌, ℕ, List, [], ◌∷◌, ◌++◌, length, All, Some, codes, sym, refl, ap, ◌∙◌}
use Rattle.std.proofs.Common.{subst, inl, inr, false, arith, length-append, get_or, drop, zero, suc, ⊎_elim}
use Rattle.std.proofs.lemmas.List.Elements.{All-from_recursion}
use Rattle.std.specs.Str.{trim_start, trim_end}
use Rattle.idna.specs.Labels.{labels_of}
use Rattle.idna.proofs.Computing.{idna}
use Rattle.publicsuffix.specs.Prevailing.{Listed, Prevails, IsName, GoesBefore}
use Rattle.publicsuffix.specs.Rules.{Rule, Text}
use Rattle.store_parts.specs.DomainMatch.{EndsAfterDot}
use Rattle.store_parts.specs.DomainText.{idna_form}
use Rattle.cookie_run.specs.Headline.{AreApart, AreRelated}

abbrev pub shop : List ℕ
shop = codes "shop.com"

abbrev pub evil : List ℕ
evil = codes "evil.com"

abbrev com_rule : Rule
com_rule = record { is_exception = false; labels = Text (codes "com") ∷ [] }

abbrev pub list : List Rule
list = com_rule ∷ []

pub own_form : idna_form shop ≡ Some shop
unfolding idna trim_start trim_end
own_form = refl

pub no_empty_label : All (λ label. label ≢ []) (labels_of shop)
no_empty_label = All-from_recursion (λ label. label ≢ []) (labels_of shop)
    ((λ e. let wrong : codes "shop" ≡ [] = e in cc), ((λ e. let wrong : codes "com" ≡ [] = e in cc), tt))

-- ---- `com` is listed

com_named : IsName (codes "com")
com_named = All-from_recursion (λ label. label ≢ []) (labels_of (codes "com"))
    ((λ e. let wrong : codes "com" ≡ [] = e in cc), tt)

pub only : (other : Rule) (k : ℕ) → k < 1 → get_or list k other ≡ other → com_rule ≡ other
only other zero h e = e
only other (suc k) h e = absurd (omega (arith, h))

com_prevails : Prevails list (labels_of (codes "com")) com_rule
com_prevails = record {
  of_list = (0, omega arith, refl);
  matches = record { front = []; back = codes "com" ∷ []; split = refl; fit = (refl, tt) };
  first = λ other here m. subst (GoesBefore com_rule) (only other here.0 here.1 here.2) (inr (refl, omega arith));
}

com_listed : Listed list (codes "com")
com_listed = record { is_name = com_named; rule = com_rule; prevails = com_prevails; whole = refl }

-- ---- what both domain-match

pub step : (c : ℕ) (cs text : List ℕ) → EndsAfterDot (c ∷ cs) text → ((c ≡ 46) × (text ≡ cs)) ⊎ EndsAfterDot cs text
step c cs text ([], e) = inl (ap (λ xs. get_or xs 0 0) e, sym (ap (drop 1) e))
step c cs text (b ∷ bs, e) = inr (bs, ap (drop 1) e)

pub no_dot : (c : ℕ) (cs text : List ℕ) → (c ≡ 46 → ⊥) → EndsAfterDot (c ∷ cs) text → EndsAfterDot cs text
no_dot c cs text other h = ⊎_elim (λ here. absurd (other here.0)) (λ later. later) (step c cs text h)

pub none_after : (text : List ℕ) → EndsAfterDot [] text → ⊥
none_after text (before, e) = omega (arith, ap length e, length-append before (46 ∷ text))

pub after_dot : (text : List ℕ) → EndsAfterDot shop text → text ≡ codes "com"
after_dot text h =
    let dotted = no_dot 112 (codes ".com") text (λ e. omega (arith, e))
    (no_dot 111 (codes "p.com") text (λ e. omega (arith, e))
    (no_dot 104 (codes "op.com") text (λ e. omega (arith, e))
    (no_dot 115 (codes "hop.com") text (λ e. omega (arith, e)) h))) in
    ⊎_elim (λ here. here.1)
    (λ later. absurd
    (none_after text (no_dot 109 [] text (λ e. omega (arith, e))
    (no_dot 111 (codes "m") text (λ e. omega (arith, e)) (no_dot 99 (codes "om") text (λ e. omega (arith, e))
    later)))))
    (step 46 (codes "com") text dotted)

shorter : (host before text : List ℕ) → host ≡ before ++ 46 ∷ text → length text < length host
shorter host before text e = omega (arith, ap length e, length-append before (46 ∷ text))

pub apart : AreApart list shop evil
apart text some (inl same) (inl other) = absurd (let wrong : 115 ≡ 101 = ap (λ xs. get_or xs 0 0) (same ∙ sym other) in
    omega (arith, wrong))
apart text some (inl same) (inr below) = absurd (let n = shorter evil below.1.0 text below.1.1 in omega
    (arith, n, ap length same))
apart text some (inr below) (inl other) = absurd (let n = shorter shop below.1.0 text below.1.1 in omega
    (arith, n, ap length other))
apart text some (inr below) (inr other) = subst (Listed list) (sym (after_dot text below.1)) com_listed

-- hosts that differ and are apart aren't related
pub apart_unrelated : (rules : List Rule) (host other : List ℕ) → AreApart rules host other → host ≢ other
    → ¬ (AreRelated rules host other)
apart_unrelated rules host other are differ (inl same) = differ same
apart_unrelated rules host other are differ (inr shared) =
    shared.4 (are shared.0 shared.1 shared.2 shared.3)
