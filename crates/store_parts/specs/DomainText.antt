-- The domain that a text gives (RFC 6265, 5.2.3, and 5.3, steps 4 to 6).
use Rattle.std.specs.Prelude.{◌≡◌, ◌⊎◌, ℕ, List, [], ◌∷◌, Option, Some, None, option_map, Result, MatchResult}
use Rattle.std.specs.Str.{trim}
use Rattle.cookie_text.specs.Record.{without_dot}
use Rattle.idna.specs.declared.Errors.TheVariants.{Invalid}
use Rattle.idna.specs.declared.deny_list.TheConstants.AsciiDenyList.{EMPTY}
use Rattle.idna.specs.Uts46.{domain_to_ascii}
use Rattle.store_parts.specs.declared.cookie_domain.CookieDomain.{CookieDomain}
use Rattle.store_parts.specs.declared.error.Error.{Error}
use Rattle.store_parts.specs.declared.error.Error.TheVariants.{Idna, OutOfMemory}
use Rattle.store_parts.specs.DomainMatch.{Domain, suffix, not_present, empty, domain_of}
use Rattle.store_parts.specs.Refusals.{handed_on}

-- the IDNA form of a text, white space at its ends left out
abbrev pub idna_form : List ℕ → Option (List ℕ)
idna_form text = domain_to_ascii EMPTY (trim text)

-- the suffix of this text, or the empty domain
abbrev pub suffix_or_empty : List ℕ → Domain
suffix_or_empty [] = empty
suffix_or_empty (b ∷ bs) = suffix (b ∷ bs)

-- the domain of a text: none where it has no IDNA form
abbrev pub read_domain : List ℕ → Option Domain
read_domain text = option_map (λ form. suffix_or_empty (without_dot form)) (idna_form text)

-- `Idna`, where there is nothing, or want of memory
abbrev pub IsIdnaRefusal : {A : Type 0} → Option A → Error → Type 0
IsIdnaRefusal form e = ((form ≡ None) × (e ≡ Idna (handed_on Invalid))) ⊎ (e ≡ OutOfMemory)

-- the domain of a Domain attribute without one dot in front: none where it has no IDNA form
abbrev pub attribute_domain : Option (List ℕ) → Option Domain
attribute_domain None = Some not_present
attribute_domain (Some text) = option_map suffix_or_empty (idna_form text)

-- the answer is the domain, or `Idna` where there is none; want of memory aside
abbrev pub ReadsDomain : Option Domain → Result CookieDomain Error → Type 0
ReadsDomain domain answer =
    MatchResult answer (λ d. domain ≡ Some (domain_of d)) (IsIdnaRefusal domain)
