-- What a text reads as is one.
use Rattle.std.proofs.Common.{◌≡◌, ℕ, ℤ, ◌*ℤ◌, pos, List, [], ◌∷◌, ◌++◌, Option, Some, None, refl, sym, ap, subst, ◌∙◌}
use Rattle.std.proofs.Common.{inl, inr, cond, bytes_eq}
use Rattle.std.specs.List.{All, list_all}
use Rattle.std.specs.Char.{is_ascii_digit}
use Rattle.std.proofs.lemmas.Option.{same_Some}
use Rattle.std.proofs.lemmas.Bool.{false≢true}
use Rattle.std.proofs.lemmas.List.Elements.{All-head, All-tail}
use Rattle.cookie_text.specs.declared.draft.SameSite.{SameSite}
use Rattle.cookie_text.specs.declared.draft.SameSite.TheVariants.{Strict, Lax, None as Unrestricted}
use Rattle.jiff.specs.Types.{DateTime}
use Rattle.jiff.proofs.Family.{same_datetime}
use Rattle.jiff_core.specs.DateTime.{civil_nanos}
use Rattle.cookie_text.specs.Date.{Stamp, IsDateText, IsMoment}
use Rattle.cookie_text.specs.declared.expiration.Expiration.TheVariants.{DateTime as At}
use Rattle.cookie_text.proofs.DateLemmas.{one_date}
use Rattle.cookie_text.specs.Record.{Record}
use Rattle.cookie_text.specs.Attribute.{Attribute, AreDigits, IsSeconds, HttpOnly, Secure, Partitioned, small_name}
use Rattle.cookie_text.specs.Reading.{HasAttributes, HasLast, GivesFlag, GivesPath, GivesDomain, GivesSite, GivesAge}
use Rattle.cookie_text.specs.Reading.{GivesEnd}

-- a piece gives one value at most
abbrev pub GivesOne : {A : Type 0} → (List ℕ → A → Type 0) → Type 0
GivesOne {A} gives = (p : List ℕ) (a b : A) → gives p a → gives p b → a ≡ b

module _ {A : Type 0} (gives : List ℕ → A → Type 0) where
  abbrev Silent : List ℕ → Type 0
  Silent p = (a : A) → ¬ (gives p a)

  -- a piece that gives a value isn't among silent ones
  among : (before : List (List ℕ)) (p : List ℕ) (after ps : List (List ℕ)) (a : A) → ps ≡ before ++ p ∷ after
      → All Silent ps → ¬ (gives p a)
  among [] p after ps a e h g = All-head Silent p after (subst (All Silent) e h) a g
  among (q ∷ before) p after ps a e h g =
      among before p after (before ++ p ∷ after) a refl (All-tail Silent q (before ++ p ∷ after)
      (subst (All Silent) e h)) g

  same_last : GivesOne gives → (b c : List (List ℕ)) (p q : List ℕ) (d e : List (List ℕ)) (x y : A)
      → b ++ p ∷ d ≡ c ++ q ∷ e → All Silent d → All Silent e → gives p x → gives q y → x ≡ y
  same_last one [] [] p q d e x y same hd he gx gy =
      let heads : p ≡ q = cc in
      one q x y (subst (λ t. gives t x) heads gx) gy
  same_last one [] (r ∷ c) p q d e x y same hd he gx gy = let tails : d ≡ c
      ++ q ∷ e = cc in absurd (among c q e d y tails hd gy)
  same_last one (r ∷ b) [] p q d e x y same hd he gx gy = let tails : e ≡ b
      ++ p ∷ d = cc in absurd (among b p d e x tails he gx)
  same_last one (r ∷ b) (s ∷ c) p q d e x y same hd he gx gy =
      let tails : b ++ p ∷ d ≡ c ++ q ∷ e = cc in same_last one b c p q d e x y tails hd he gx gy

  pub HasLast-unique : GivesOne gives → (ps : List (List ℕ)) (o r : Option A) → HasLast gives ps o → HasLast gives ps r
      → o ≡ r
  HasLast-unique one ps None None h k = refl
  HasLast-unique one ps None (Some y) h k = absurd (among k.before k.piece k.after ps y k.split h k.given)
  HasLast-unique one ps (Some x) None h k = absurd (among h.before h.piece h.after ps x h.split k h.given)
  HasLast-unique one ps (Some x) (Some y) h k =
      ap Some (same_last one h.before k.before h.piece k.piece h.after k.after x y
      (sym h.split ∙ k.split) h.later k.later h.given k.given)

pub one_path : GivesOne GivesPath
one_path p a b g h = same_Some _ _ (sym g.says ∙ h.says)

pub one_domain : GivesOne GivesDomain
one_domain p a b g h = same_Some _ _ (sym g.says.0 ∙ h.says.0)

site_from : List ℕ → SameSite
site_from name = cond (bytes_eq name (small_name Strict)) Strict
    (cond (bytes_eq name (small_name Lax)) Lax Unrestricted)

site_from-small_name : (s : SameSite) → site_from (small_name s) ≡ s
unfolding site_from
site_from-small_name Strict = refl
site_from-small_name Lax = refl
site_from-small_name Unrestricted = refl

pub one_site : GivesOne GivesSite
one_site p a b g h =
    let texts = same_Some _ _ (sym g.says.1 ∙ h.says.1) in
    let names : small_name a ≡ small_name b = sym g.says.2 ∙ ap Rattle.std.specs.Str.str_to_ascii_lowercase texts
    ∙ h.says.2 in
    sym (site_from-small_name a) ∙ ap site_from names ∙ site_from-small_name b

minus_is_no_digit : (digits : List ℕ) → ¬ (AreDigits (45 ∷ digits))
minus_is_no_digit digits h = false≢true h.1

one_number : (text : List ℕ) (y z : ℤ) → IsSeconds text y → IsSeconds text z → y ≡ z
one_number text y z (inl g) (inl h) = g.1 ∙ sym h.1
one_number text y z (inl g) (inr h) = absurd (minus_is_no_digit h.0 (subst AreDigits h.1 g.0))
one_number text y z (inr g) (inl h) = absurd (minus_is_no_digit g.0 (subst AreDigits g.1 h.0))
one_number text y z (inr g) (inr h) = g.3 ∙ sym h.3

pub one_age : GivesOne GivesAge
one_age p a b g h =
    let texts = same_Some _ _ (sym g.1.says.1 ∙ h.1.says.1) in
    g.2 ∙ ap (λ z. z *ℤ pos 1_000_000_000) (one_number h.1.says.0 g.0 h.0
    (subst (λ t. IsSeconds t g.0) texts g.1.says.2) h.1.says.2) ∙ sym h.2

pub one_flag : (a : Attribute) → GivesOne (GivesFlag a)
one_flag a p b c g h = g.1 ∙ sym h.1

-- the numbers of a stamp make one moment
same_nanos : (s : Stamp) (d e : DateTime) → IsMoment s d → IsMoment s e → civil_nanos d ≡ civil_nanos e
unfolding civil_nanos
same_nanos s d e h k =
    let year : d.date.year ≡ e.date.year = h.year ∙ sym k.year in
    let month : d.date.month ≡ e.date.month = h.month ∙ sym k.month in
    let day : d.date.day ≡ e.date.day = h.day ∙ sym k.day in
    let hour : d.time.hour ≡ e.time.hour = h.hour ∙ sym k.hour in
    let minute : d.time.minute ≡ e.time.minute = h.minute ∙ sym k.minute in
    let second : d.time.second ≡ e.time.second = h.second ∙ sym k.second in
    let whole : d.time.subsec_nanosecond ≡ e.time.subsec_nanosecond = h.whole ∙ sym k.whole in
    rw (year, month, day, hour, minute, second, whole) refl

pub one_end : GivesOne GivesEnd
one_end p a b g h =
    let texts = same_Some _ _ (sym g.1.says.1 ∙ h.1.says.1) in
    let shown : IsDateText h.1.says.0 g.1.says.2.0 = subst (λ t. IsDateText t g.1.says.2.0) texts g.1.says.2.1 in
    let stamps = one_date h.1.says.0 g.1.says.2.0 h.1.says.2.0 shown h.1.says.2.1 in
    let moments = same_nanos h.1.says.2.0 g.0 h.0 (subst (λ s. IsMoment s g.0) stamps g.1.says.2.2) h.1.says.2.2 in
    g.2 ∙ ap At (same_datetime g.0 h.0 moments) ∙ sym h.2

-- the pieces and the pair determine a cookie
pub same_record : (ps : List (List ℕ)) (a b : Record) → a.name ≡ b.name → a.value ≡ b.value → HasAttributes ps a
    → HasAttributes ps b → a ≡ b
same_record ps a b name value h k = λ i. record {
  name = name i;
  value = value i;
  http_only = HasLast-unique (GivesFlag HttpOnly) (one_flag HttpOnly) ps a.http_only b.http_only h.http_only k.http_only
      i;
  secure = HasLast-unique (GivesFlag Secure) (one_flag Secure) ps a.secure b.secure h.secure k.secure i;
  partitioned = HasLast-unique (GivesFlag Partitioned) (one_flag Partitioned) ps a.partitioned b.partitioned
      h.partitioned k.partitioned i;
  same_site = HasLast-unique GivesSite one_site ps a.same_site b.same_site h.same_site k.same_site i;
  max_age = HasLast-unique GivesAge one_age ps a.max_age b.max_age h.max_age k.max_age i;
  path = HasLast-unique GivesPath one_path ps a.path b.path h.path k.path i;
  domain = HasLast-unique GivesDomain one_domain ps a.domain b.domain h.domain k.domain i;
  expires = HasLast-unique GivesEnd one_end ps a.expires b.expires h.expires k.expires i;
}
