-- A line is refused whatever the rows are, or it is one row that is tried against them.
use Rattle.std.proofs.Common.{◌≡◌, ◌≢◌, ◌⊎◌, ℕ, ℤ, List, [], sym, refl, ap, ◌∙◌, subst, inl, inr, Option}
use Rattle.std.proofs.Common.{Some, None}
use Rattle.std.specs.Prelude.{option_map, unwrap_or}
use Rattle.publicsuffix.specs.Prevailing.{Listed}
use Rattle.publicsuffix.specs.Rules.{Rule}
use Rattle.store_parts.specs.DomainMatch.{Domain, host_only, suffix, text_of, text_or_empty}
use Rattle.store_parts.specs.DomainMatch.{CoversAt, IsListedIn}
use Rattle.store_parts.specs.Schemes.{host_of}
use Rattle.url.specs.Parts.{Parts}
use Rattle.cookie_store.specs.Rows.{Row, domain_text}
use Rattle.cookie_run.proofs.Lines.{Comes, comes, some_and}
use Rattle.cookie_client.proofs.Lines.{some_domain}
use Rattle.cookie_client.proofs.Texts.{some_is_not_none}
use Rattle.cookie_client.proofs.Tried.{IsAdmitted, IsTried}

-- ---- where it stands

-- a suffix that a row has isn't empty, nor listed
abbrev pub IsSound : List Rule → Row → Type 0
IsSound list row = (text : List ℕ) → row.domain ≡ suffix text → (text ≢ []) × (¬ (Listed list text))

-- the text is listed or isn't
abbrev pub IsWeighed : List Rule → List ℕ → Type 0
IsWeighed list text = (¬ (Listed list text)) ⊎ Listed list text

-- the row that is tried has the URL's host as its text, or is a suffix that covers it
abbrev pub Stands : List Rule → Parts → Domain → Type 0
Stands list url d =
    ((host : List ℕ) × (host_of url ≡ Some host) × (d ≡ host_only host))
    ⊎ ((text : List ℕ) × (text ≢ []) × (d ≡ suffix text) × (¬ (Listed list text)) × CoversAt d url)

host_alone : (d : Domain) (o : Option (List ℕ)) → option_map host_only o ≡ Some d
    → (host : List ℕ) × (o ≡ Some host) × (d ≡ host_only host)
host_alone d None h = absurd (some_is_not_none d (sym h))
host_alone d (Some g) h = (g, refl, sym (some_domain (host_only g) d h))

listed_or : (list : List Rule) (url : Parts) (d : Domain) → Comes url d
    → ((¬ (IsListedIn d list)) ⊎ IsListedIn d list) → IsWeighed list (text_or_empty d)
listed_or list url d (inl below) h =
    subst (λ x. IsWeighed list (text_or_empty x)) (sym below.2)
    (subst (λ x. (¬ (IsListedIn x list)) ⊎ IsListedIn x list) below.2 h)
listed_or list url d (inr own) h =
    let g = host_alone d (host_of url) own in
    subst (λ x. IsWeighed list (text_or_empty x)) (sym g.2)
    (subst (λ x. (¬ (IsListedIn x list)) ⊎ IsListedIn x list) g.2 h)

module _ (list : List Rule) (url : Parts) (now : ℤ) (line : List ℕ) (row : Row) where
  comes_so : (t : IsTried list url now line row) → Comes url t.made.domain
  comes_so t = comes url t.made.domain _ t.makes.2.domain

  admitted_stands : (m : Row) → Comes url m.domain → IsAdmitted list url m row → Stands list url row.domain
  admitted_stands m (inr own) (inl h) =
      subst (λ (r : Row). Stands list url r.domain) (sym h.1) (inl (host_alone m.domain (host_of url) own))
  admitted_stands m (inl below) (inl h) =
      subst (λ (r : Row). Stands list url r.domain) (sym h.1)
      (inr (below.0, below.1, below.2, subst (λ d. ¬ (IsListedIn d list)) below.2 h.0, below.3))
  admitted_stands m from (inr h) =
      let g = some_and (λ x. text_of m.domain ≡ Some x) (host_of url) h.1 in
      inl (g.0, g.1, ap (λ (r : Row). r.domain) h.2 ∙ ap (λ o. host_only (unwrap_or o [])) g.2)

  pub tried_stands : IsTried list url now line row → Stands list url row.domain
  tried_stands t = admitted_stands t.made (comes_so t) t.admitted

  admitted_weighed : (m : Row) → Comes url m.domain → IsAdmitted list url m row → IsWeighed list (domain_text row)
  admitted_weighed m from (inl h) =
      subst (λ (r : Row). IsWeighed list (domain_text r)) (sym h.1) (listed_or list url m.domain from (inl h.0))
  admitted_weighed m from (inr h) =
      subst (λ (r : Row). IsWeighed list (domain_text r)) (sym h.2) (listed_or list url m.domain from (inr h.0))

  pub tried_weighed : IsTried list url now line row → IsWeighed list (domain_text row)
  tried_weighed t = admitted_weighed t.made (comes_so t) t.admitted

pub stands_sound : (list : List Rule) (url : Parts) (d : Domain) → Stands list url d → (text : List ℕ)
    → d ≡ suffix text → (text ≢ []) × (¬ (Listed list text))
stands_sound list url d (inl own) text e =
    let wrong : host_only own.0 ≡ suffix text = sym own.2 ∙ e in absurd (cc)
stands_sound list url d (inr below) text e =
    let wrap : suffix below.0 ≡ suffix text = sym below.2 ∙ e in
    let same : below.0 ≡ text = cc in
    (subst (λ t. t ≢ []) same below.1, subst (λ t. ¬ (Listed list t)) same below.3)
