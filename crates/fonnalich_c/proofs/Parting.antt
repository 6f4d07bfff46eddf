-- When a cookie ends that is made of its parts, and what is given of one that is read.
use Rattle.std.proofs.Common.{◌≡◌, ◌⊎◌, inl, ℕ, ◌≤◌, ◌<◌, List, length, ℤ, ◌≤ℤ◌, Bool, true, false, Option}
use Rattle.std.proofs.Common.{Some, None, sym, ap, subst, ◌∙◌, arith}
use Rattle.std.specs.Prelude.{MatchOption, option_map}
use Rattle.std.specs.Int.{int_min}
use Rattle.std.specs.Str.{IsUtf8}
use Rattle.std.proofs.lemmas.Int.{ints}
use Rattle.jiff.specs.Types.{DateTime}
use Rattle.jiff.specs.Words.{civil_nanos}
use Rattle.jiff.proofs.Family.{civil_nanos_range}
use Rattle.jiff.proofs.SpanFacts.{signed_arith}
use Rattle.cookie_text.specs.declared.draft.SameSite.{SameSite}
use Rattle.cookie_text.specs.declared.expiration.Expiration.{Expiration}
use Rattle.cookie_text.specs.declared.expiration.Expiration.TheVariants.{DateTime as At, Session}
use Rattle.cookie_text.specs.Record.{Seen, bare, unsliced}
use Rattle.cookie_text.specs.Setting.{IsKept, SetsExpires, latest_end, with_domain, with_expires, with_path}
use Rattle.fonnalich_c.specs.Given.{nanos_of}
use Rattle.fonnalich_c.specs.Parts.{AreParts, GivesParts, HasEnd, IsMade, IsTextWhere, Texts, counted, site_number}
use Rattle.fonnalich_c.specs.Parts.{with_attributes}
use Rattle.fonnalich_c.specs.Room.{IsWritten}
use Rattle.fonnalich_c.specs.declared.attributes.Attributes.{Attributes}

-- no whole second is after the latest end
no_later : (d : DateTime) (second : ℤ) → civil_nanos d ≡ nanos_of second → civil_nanos d ≤ℤ latest_end
no_later d second is = omega (arith, signed_arith, civil_nanos_range d, is)

least : (n : ℤ) → n ≤ℤ latest_end → int_min n latest_end ≡ n
least n h = grind (arith, ints)

kept_at : (d : DateTime) (second : ℤ) (kept : Expiration) (end : Option Expiration) → civil_nanos d ≡ nanos_of second
    → IsKept (At d) kept → end ≡ Some kept → HasEnd (Some second) end
kept_at d second Session end is kept same = absurd kept
kept_at d second (At k) end is kept same = (k, kept ∙ least (civil_nanos d) (no_later d second is) ∙ is, same)

pub ends_at : (has : Bool) (second : ℤ) (at : Option DateTime) (old new : Seen)
    → option_map civil_nanos at ≡ option_map nanos_of (counted has second)
    → MatchOption at (new ≡ with_expires old None) (λ d. SetsExpires old (At d) new)
    → HasEnd (counted has second) new.cookie.expires
ends_at false second None old new is set = ap (λ s. s.cookie.expires) set
ends_at true second (Some d) old new is set =
    kept_at d second set.0 new.cookie.expires (some_is (civil_nanos d) (nanos_of second) is) set.1
    (ap (λ s. s.cookie.expires) set.2)
  where
    some_is : (a b : ℤ) → Some a ≡ Some b → a ≡ b
    some_is a b e = cc
ends_at false second (Some d) old new is set = absurd (none_some (civil_nanos d) is)
  where
    none_some : (n : ℤ) → Some n ≡ None → ⊥
    none_some n e = cc
ends_at true second None old new is set = absurd (none_some (nanos_of second) is)
  where
    none_some : (n : ℤ) → None ≡ Some n → ⊥
    none_some n e = cc

-- nothing else changes
ends_alone : (at : Option DateTime) (old new : Seen)
    → MatchOption at (new ≡ with_expires old None) (λ d. SetsExpires old (At d) new)
    → new ≡ with_expires old new.cookie.expires
ends_alone None old new set = set ∙ ap (with_expires old) (sym (ap (λ s. s.cookie.expires) set))
ends_alone (Some d) old new set = set.2 ∙ ap (with_expires old) (sym (ap (λ s. s.cookie.expires) set.2))

-- the texts are written, and the attributes given where there is room
pub parted : (is_decoded : Bool) (text : List ℕ) (old read new : Attributes) (answer lent out written : List ℕ)
    (number told : ℤ) → told ≡ number → lent ≡ answer → AreParts is_decoded text answer read
    → IsWritten lent out written number
    → ((length answer ≤ length out) × (new ≡ read)) ⊎ ((length out < length answer) × (new ≡ old))
    → GivesParts is_decoded text old out new written told
parted is_decoded text old read new answer lent out written number told is same parts wrote given =
    inl (
      answer,
      read,
      parts,
      subst (λ n. IsWritten answer out written n) (sym is)
          (subst (λ t. IsWritten t out written number) same wrote),
      given,
    )

-- a cookie that its parts were put into
module _ (a : Attributes) (texts : Texts) (site : Option SameSite) (end : Option DateTime) (name value : List ℕ)
    (path domain : Option (List ℕ)) (first pathed domained attributed new : Seen) where
  pub made_of : first ≡ unsliced (bare name value) → pathed ≡ with_path first path
      → domained ≡ with_domain pathed domain → attributed ≡ with_attributes domained a site
      → MatchOption end (new ≡ with_expires attributed None) (λ at. SetsExpires attributed (At at) new)
      → (name ≡ texts.name) × IsUtf8 texts.name → (value ≡ texts.value) × IsUtf8 texts.value
      → (path ≡ counted a.has_path texts.path) × IsTextWhere a.has_path texts.path
      → (domain ≡ counted a.has_domain texts.domain) × IsTextWhere a.has_domain texts.domain
      → a.same_site ≡ site_number site
      → option_map civil_nanos end ≡ option_map nanos_of (counted a.has_expires a.expires)
      → IsMade a texts new.cookie
  made_of begun has_path has_domain has_attributes ended is_name is_value is_path is_domain is_site is_end =
      let at_path : pathed ≡ with_path bare_one path = has_path ∙ (λ i. with_path (begun i) path) in
      let at_domain : domained ≡ with_domain (with_path bare_one path) domain =
      has_domain ∙ (λ i. with_domain (at_path i) domain) in
      let all : attributed ≡ whole = has_attributes ∙ (λ i. with_attributes (at_domain i) a site) in
      let same : new ≡ with_expires whole new.cookie.expires =
      ends_alone end attributed new ended ∙ (λ i. with_expires (all i) new.cookie.expires) in
      record {
        are_texts = (is_name.1, is_value.1, is_path.1, is_domain.1);
        name = ap (λ s. s.cookie.name) same ∙ is_name.0;
        value = ap (λ s. s.cookie.value) same ∙ is_value.0;
        path = ap (λ s. s.cookie.path) same ∙ is_path.0;
        domain = ap (λ s. s.cookie.domain) same ∙ is_domain.0;
        http_only = ap (λ s. s.cookie.http_only) same;
        secure = ap (λ s. s.cookie.secure) same;
        partitioned = ap (λ s. s.cookie.partitioned) same;
        same_site = is_site ∙ ap site_number (sym (ap (λ s. s.cookie.same_site) same));
        max_age = ap (λ s. s.cookie.max_age) same;
        expires = ends_at a.has_expires a.expires end attributed new is_end ended;
      }
    where
      bare_one : Seen
      bare_one = unsliced (bare name value)

      whole : Seen
      whole = with_attributes (with_domain (with_path bare_one path) domain) a site
