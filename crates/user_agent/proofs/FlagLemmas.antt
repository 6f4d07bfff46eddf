-- Of the printed text of a cookie no flag is read that it lacks (RFC 6265, sections 4.1.1 and 5.2).
use Rattle.std.proofs.Common.{◌≡◌, ℕ, ◌+◌, ◌==◌, Bool, true, false, cond, List, [], ◌∷◌, ◌++◌}
use Rattle.std.proofs.Common.{Option, Some, None, option_map, ℤ, IfSome, sym, refl, ap, ◌∙◌, subst, arith}
use Rattle.std.proofs.Common.{Ok, codes}
use Rattle.std.specs.Prelude.{◌&&◌, ◌||◌, is_none}
use Rattle.std.specs.Fmt.{signed_decimal}
use Rattle.std.specs.List.{All, AllByRecursion}
use Rattle.std.specs.Str.{IsUtf8, trim, trim_start, trim_end, chars}
use lib.Utf8.{encode}
use Rattle.std.proofs.lemmas.Bool.{true≢false}
use Rattle.std.proofs.lemmas.Bool.Decides.{nat_tests}
use Rattle.std.proofs.lemmas.List.Elements.{All-nil, All-cons, All-head, All-tail}
use Rattle.std.proofs.lemmas.Option.{same_Some}
use Rattle.jiff.specs.Types.{DateTime}
use Rattle.cookie_text.specs.declared.draft.SameSite.{SameSite}
use Rattle.cookie_text.specs.declared.draft.SameSite.TheVariants.{Strict, Lax, None as Unrestricted}
use Rattle.cookie_text.specs.Again.{IsReadPair}
use Rattle.cookie_text.specs.Attribute.{Attribute, HttpOnly, Secure, Partitioned, OfSite, MaxAge, Path, Domain}
use Rattle.cookie_text.specs.Attribute.{Expires}
use Rattle.cookie_text.specs.Pieces.{full_stop, semicolon, pieces, value_of, text_after}
use Rattle.cookie_text.specs.Printing.{attribute_text, attributes_of, date_text, flag, is_set, is_unrestricted}
use Rattle.cookie_text.specs.Printing.{printed, prints_secure, stripped, whole_seconds}
use Rattle.cookie_text.specs.Reading.{GivesDomain, GivesFlag, GivesPath, GivesSite, HasAttributes, HasLast, ReadsPlain}
use Rattle.cookie_text.specs.Record.{Record, Seen, domain_of, without_dot}
use Rattle.cookie_text.proofs.BoundAgain.{all_at, clean_text, date_clean, other_name, signed_clean, there_all}
use Rattle.cookie_text.proofs.NormalLemmas.{pieces_of, printed_pieces}
use Rattle.cookie_text.proofs.PrintedAttributes.{clean_of, clean_join, reads-SameSite}
use Rattle.cookie_text.proofs.PrintedCookies.{AllThere, IsClean-pair, all_clean, there_end, there_option}
use Rattle.cookie_text.proofs.PrintedPieces.{IsClean, split-joined, value_cut}
use Rattle.cookie_text.proofs.ReadsBack.{same_tail}
use Rattle.user_agent.specs.Refusals.{asks_for_secure}
use Rattle.user_agent.proofs.WholeLemmas.{IsWhole, after_whole, behind_dot, pieces_whole, trim_whole, whole_clean}

-- ---- what holds of each attribute that is printed

there_flag_so : (P : Attribute → Type 0) (b : Bool) (a : Attribute) (os : List (Option Attribute)) → (b ≡ true → P a)
    → AllThere P os → AllThere P (flag b a ∷ os)
there_flag_so P true a os h all = (h refl, all)
there_flag_so P false a os h all = all

some_so : {A : Type 0} (Q : A → Type 0) (o : Option A) → ((x : A) → o ≡ Some x → Q x) → IfSome o Q
some_so Q None h = tt
some_so Q (Some x) h = h x refl

module _ (P : Attribute → Type 0) (r : Record) (http : P HttpOnly)
    (site : (s : SameSite) → r.same_site ≡ Some s → P (OfSite s)) (parted : is_set r.partitioned ≡ true → P Partitioned)
    (secure : prints_secure r ≡ true → P Secure)
    (path : (t : List ℕ) → r.path ≡ Some t → P (Path t)) (domain : (t : List ℕ) → domain_of r ≡ Some t → P (Domain t))
    (aged : (z : ℤ) → P (MaxAge z)) (dated : (d : DateTime) → P (Expires d)) where
  pub each_there : AllThere P (attributes_of r)
  each_there =
      there_flag_so P (is_set r.http_only) HttpOnly _ (λ e. http)
      (there_option P OfSite r.same_site _ (some_so (λ s. P (OfSite s)) r.same_site site)
      (there_flag_so P (is_set r.partitioned) Partitioned _ parted
      (there_flag_so P (prints_secure r) Secure _ secure
      (there_option P Path r.path _ (some_so (λ t. P (Path t)) r.path path)
      (there_option P Domain (domain_of r) _ (some_so (λ t. P (Domain t)) (domain_of r) domain)
      (there_option P (λ nanos. MaxAge (whole_seconds nanos)) r.max_age _
      (some_so (λ nanos. P (MaxAge (whole_seconds nanos))) r.max_age (λ nanos e. aged (whole_seconds nanos)))
      (there_end P r.expires [] (λ d e. dated d) tt)))))))

-- ---- what the last of the pieces gives

-- what each value has that a piece gives the last one has
last_has : {A : Type 0} (gives : List ℕ → A → Type 0) (Q : A → Type 0) (ps : List (List ℕ)) (o : Option A)
    → All (λ p. (y : A) → gives p y → Q y) ps → HasLast gives ps o → IfSome o Q
last_has gives Q ps None each last = tt
last_has {A} gives Q ps (Some y) each last =
    all_at (λ p. (z : A) → gives p z → Q z) last.before last.piece last.after
    (subst (All (λ p. (z : A) → gives p z → Q z)) last.split each) y last.given

-- ---- a cookie whose path and whose domain hold no semicolon

-- its path and its domain are such texts
pub record IsUncut (r : Record) : Type 0 where
  pub path : IfSome r.path IsWhole
  pub domain : IfSome r.domain IsWhole

some_is : {A : Type 0} (Q : A → Type 0) (o : Option A) (x : A) → IfSome o Q → o ≡ Some x → Q x
some_is Q o x h e = subst (λ p. IfSome p Q) e h

dotless : (d : List ℕ) → IsWhole d → IsWhole (without_dot d)
dotless [] h = h
dotless (b ∷ bs) h = by (b == full_stop) refl
  where
    by : (x : Bool) → (b == full_stop) ≡ x → IsWhole (cond x bs (b ∷ bs))
    by true e = behind_dot bs (subst (λ c. IsWhole (c ∷ bs)) (grind (arith, nat_tests, e)) h)
    by false e = h

domain_whole : (o : Option (List ℕ)) (t : List ℕ) → IfSome o IsWhole → option_map without_dot o ≡ Some t → IsWhole t
domain_whole None t h e = absurd (cc)
domain_whole (Some d) t h e = subst IsWhole (same_Some (without_dot d) t e) (dotless d h)

module _ (r : Record) (uncut : IsUncut r) where
  path_is : (t : List ℕ) → r.path ≡ Some t → IsWhole t
  path_is t e = some_is IsWhole r.path t uncut.path e

  domain_is : (t : List ℕ) → domain_of r ≡ Some t → IsWhole t
  domain_is t e = domain_whole r.domain t uncut.domain e

  are_clean : AllThere (λ a. IsClean (attribute_text a)) (attributes_of r)
  are_clean =
      each_there (λ a. IsClean (attribute_text a)) r (clean_of (codes "HttpOnly") refl)
      (λ s e. (reads-SameSite s).clean) (λ e. clean_of (codes "Partitioned") refl)
      (λ e. clean_of (codes "Secure") refl)
      (λ t e. clean_join (codes "Path=") t (clean_of (codes "Path=") refl) (whole_clean t (path_is t e)))
      (λ t e. clean_join (codes "Domain=") t (clean_of (codes "Domain=") refl) (whole_clean t (domain_is t e)))
      (λ z. clean_join (codes "Max-Age=") (signed_decimal z) (clean_of (codes "Max-Age=") refl) (signed_clean z))
      (λ d. clean_join (codes "Expires=") (date_text d) (clean_of (codes "Expires=") refl) (date_clean d))

  abbrev here : List (List ℕ)
  here = pieces_of (attributes_of r)

  secure_given : All (λ p. (b : Bool) → GivesFlag Secure p b → prints_secure r ≡ true) here
  secure_given =
      there_all (λ p. (b : Bool) → GivesFlag Secure p b → prints_secure r ≡ true) (attributes_of r)
      (each_there (λ a. (b : Bool) → GivesFlag Secure (32 ∷ attribute_text a) b → prints_secure r ≡ true) r
      (λ b g. absurd (other_name HttpOnly Secure refl refl g.0))
      (λ s e b g. absurd (other_name (OfSite s) Secure refl refl g.0))
      (λ e b g. absurd (other_name Partitioned Secure refl refl g.0)) (λ e b g. e)
      (λ t e b g. absurd (other_name (Path t) Secure refl refl g.0))
      (λ t e b g. absurd (other_name (Domain t) Secure refl refl g.0))
      (λ z b g. absurd (other_name (MaxAge z) Secure refl refl g.0))
      (λ d b g. absurd (other_name (Expires d) Secure refl refl g.0)))

  parted_given : All (λ p. (b : Bool) → GivesFlag Partitioned p b → is_set r.partitioned ≡ true) here
  parted_given =
      there_all (λ p. (b : Bool) → GivesFlag Partitioned p b → is_set r.partitioned ≡ true) (attributes_of r)
      (each_there (λ a. (b : Bool) → GivesFlag Partitioned (32 ∷ attribute_text a) b → is_set r.partitioned ≡ true) r
      (λ b g. absurd (other_name HttpOnly Partitioned refl refl g.0))
      (λ s e b g. absurd (other_name (OfSite s) Partitioned refl refl g.0)) (λ e b g. e)
      (λ e b g. absurd (other_name Secure Partitioned refl refl g.0))
      (λ t e b g. absurd (other_name (Path t) Partitioned refl refl g.0))
      (λ t e b g. absurd (other_name (Domain t) Partitioned refl refl g.0))
      (λ z b g. absurd (other_name (MaxAge z) Partitioned refl refl g.0))
      (λ d b g. absurd (other_name (Expires d) Partitioned refl refl g.0)))

  -- of a printed SameSite the value is that name
  abbrev IsOpenOnly : SameSite → Type 0
  IsOpenOnly s = is_unrestricted (Some s) ≡ true → is_unrestricted r.same_site ≡ true

  site_given_here : (s : SameSite) → r.same_site ≡ Some s → (x : SameSite)
      → GivesSite (32 ∷ attribute_text (OfSite s)) x → IsOpenOnly x
  unfolding value_of text_after trim_start trim_end chars encode
  site_given_here s e Strict g = λ f. absurd (true≢false (sym f))
  site_given_here s e Lax g = λ f. absurd (true≢false (sym f))
  site_given_here Strict e Unrestricted g = λ f. absurd (cc (g.says.1, g.says.2))
  site_given_here Lax e Unrestricted g = λ f. absurd (cc (g.says.1, g.says.2))
  site_given_here Unrestricted e Unrestricted g = λ f. ap is_unrestricted e

  site_given : All (λ p. (x : SameSite) → GivesSite p x → IsOpenOnly x) here
  site_given =
      there_all (λ p. (x : SameSite) → GivesSite p x → IsOpenOnly x) (attributes_of r)
      (each_there (λ a. (x : SameSite) → GivesSite (32 ∷ attribute_text a) x → IsOpenOnly x) r
      (λ x g. absurd (other_name HttpOnly (OfSite x) refl refl g)) (λ s e x g. site_given_here s e x g)
      (λ e x g. absurd (other_name Partitioned (OfSite x) refl refl g))
      (λ e x g. absurd (other_name Secure (OfSite x) refl refl g))
      (λ t e x g. absurd (other_name (Path t) (OfSite x) refl refl g))
      (λ t e x g. absurd (other_name (Domain t) (OfSite x) refl refl g))
      (λ z x g. absurd (other_name (MaxAge z) (OfSite x) refl refl g))
      (λ d x g. absurd (other_name (Expires d) (OfSite x) refl refl g)))

  path_given : All (λ p. (x : List ℕ) → GivesPath p x → IsWhole x) here
  path_given =
      there_all (λ p. (x : List ℕ) → GivesPath p x → IsWhole x) (attributes_of r)
      (each_there (λ a. (x : List ℕ) → GivesPath (32 ∷ attribute_text a) x → IsWhole x) r
      (λ x g. absurd (other_name HttpOnly (Path x) refl refl g))
      (λ s e x g. absurd (other_name (OfSite s) (Path x) refl refl g))
      (λ e x g. absurd (other_name Partitioned (Path x) refl refl g))
      (λ e x g. absurd (other_name Secure (Path x) refl refl g))
      (λ t e x g. subst IsWhole
      (same_Some (trim t) x (sym (value_cut (codes " Path") t (trim t) refl refl) ∙ g.says))
      (trim_whole t (path_is t e)))
      (λ t e x g. absurd (other_name (Domain t) (Path x) refl refl g))
      (λ z x g. absurd (other_name (MaxAge z) (Path x) refl refl g))
      (λ d x g. absurd (other_name (Expires d) (Path x) refl refl g)))

  domain_given : All (λ p. (x : List ℕ) → GivesDomain p x → IsWhole x) here
  domain_given =
      there_all (λ p. (x : List ℕ) → GivesDomain p x → IsWhole x) (attributes_of r)
      (each_there (λ a. (x : List ℕ) → GivesDomain (32 ∷ attribute_text a) x → IsWhole x) r
      (λ x g. absurd (other_name HttpOnly (Domain x) refl refl g))
      (λ s e x g. absurd (other_name (OfSite s) (Domain x) refl refl g))
      (λ e x g. absurd (other_name Partitioned (Domain x) refl refl g))
      (λ e x g. absurd (other_name Secure (Domain x) refl refl g))
      (λ t e x g. absurd (other_name (Path t) (Domain x) refl refl g))
      (λ t e x g. subst IsWhole
      (same_Some (trim t) x (sym (value_cut (codes " Domain") t (trim t) refl refl) ∙ g.says.0))
      (trim_whole t (domain_is t e)))
      (λ z x g. absurd (other_name (MaxAge z) (Domain x) refl refl g))
      (λ d x g. absurd (other_name (Expires d) (Domain x) refl refl g)))

-- ---- THE FLAGS

set_some : (o : Option Bool) (Q : Type 0) → IfSome o (λ b. Q) → is_set o ≡ true → Q
set_some None Q h e = absurd (true≢false (sym e))
set_some (Some b) Q h e = h

open_some : (o : Option SameSite) (Q : Type 0) → IfSome o (λ s. is_unrestricted (Some s) ≡ true → Q)
    → is_unrestricted o ≡ true → Q
open_some None Q h e = absurd (true≢false (sym e))
open_some (Some s) Q h e = h e

-- a cookie that is Secure, or asks for it
abbrev pub may_be_secure : Record → Bool
may_be_secure r = is_set r.secure || asks_for_secure r

printed_may : (a b c d : Bool) → (a || b || (c && d)) ≡ true → (a || (c || b)) ≡ true
printed_may true b c d e = refl
printed_may false true true d e = refl
printed_may false true false d e = refl
printed_may false false true d e = refl
printed_may false false false d e = e

third_may : (a c b : Bool) → b ≡ true → (a || (c || b)) ≡ true
third_may true c b e = refl
third_may false true b e = refl
third_may false false b e = e

second_may : (a c b : Bool) → c ≡ true → (a || (c || b)) ≡ true
second_may true c b e = refl
second_may false c b e = ap (λ x. x || b) e

either_of : (a c b : Bool) (Q : Type 0) → (a ≡ true → Q) → (c ≡ true → Q) → (b ≡ true → Q) → (a || (c || b)) ≡ true → Q
either_of true c b Q f g h e = f refl
either_of false true b Q f g h e = g refl
either_of false false b Q f g h e = h e

-- what is read of its text has the attributes that the printed pieces give
pub attributes_read : (r : Record) (s : Seen) → IsReadPair r.name r.value → IsUncut r → ReadsPlain (printed r) (Ok s)
    → HasAttributes (pieces_of (attributes_of r)) s.cookie
attributes_read r s pair uncut h =
    let os = attributes_of r in
    let front = IsClean-pair r.name r.value (clean_text r.name pair.name_whole) (clean_text r.value pair.value_whole) in
    let cut : pieces (printed r) ≡ stripped r ∷ pieces_of os =
    ap (λ t. pieces (stripped r ++ t)) (printed_pieces os)
    ∙ split-joined (stripped r) (pieces_of os) front (all_clean os (are_clean r uncut)) in
    let rest = h.attributes in
    let tails = same_tail _ _ rest.0 (pieces_of os) (sym rest.1 ∙ cut) in
    subst (λ qs. HasAttributes qs s.cookie) tails rest.2

-- what is read of its text may be Secure only where it may be itself, and is uncut
pub flags_read : (r : Record) (s : Seen) → IsReadPair r.name r.value → IsUncut r → ReadsPlain (printed r) (Ok s)
    → (may_be_secure s.cookie ≡ true → may_be_secure r ≡ true) × IsUncut s.cookie
flags_read r s pair uncut h =
    let os = attributes_of r in
    let has = attributes_read r s pair uncut h in
    let may : Type 0 = may_be_secure r ≡ true in
    let secure : is_set s.cookie.secure ≡ true → may =
    λ e. printed_may (is_set r.secure) (is_set r.partitioned) (is_unrestricted r.same_site) (is_none r.secure)
    (set_some s.cookie.secure (prints_secure r ≡ true)
    (last_has (GivesFlag Secure) (λ b. prints_secure r ≡ true) (pieces_of os) s.cookie.secure (secure_given r uncut)
    has.secure) e) in
    let parted : is_set s.cookie.partitioned ≡ true → may =
    λ e. third_may (is_set r.secure) (is_unrestricted r.same_site) (is_set r.partitioned)
    (set_some s.cookie.partitioned (is_set r.partitioned ≡ true)
    (last_has (GivesFlag Partitioned) (λ b. is_set r.partitioned ≡ true) (pieces_of os) s.cookie.partitioned
    (parted_given r uncut) has.partitioned) e) in
    let one : IfSome s.cookie.same_site (IsOpenOnly r uncut) =
    last_has GivesSite (IsOpenOnly r uncut) (pieces_of os) s.cookie.same_site (site_given r uncut) has.same_site in
    let none : is_unrestricted s.cookie.same_site ≡ true → may =
    λ e. second_may (is_set r.secure) (is_unrestricted r.same_site) (is_set r.partitioned)
    (open_some s.cookie.same_site (is_unrestricted r.same_site ≡ true) one e) in (
      either_of (is_set s.cookie.secure) (is_unrestricted s.cookie.same_site) (is_set s.cookie.partitioned) may secure
          none parted,
      record {
        path = last_has GivesPath IsWhole (pieces_of os) s.cookie.path (path_given r uncut) has.path;
        domain = last_has GivesDomain IsWhole (pieces_of os) s.cookie.domain (domain_given r uncut) has.domain;
      },
    )

-- ---- what a line reads as is uncut

value_whole : (piece x : List ℕ) → IsWhole piece → value_of piece ≡ Some x → IsWhole x
unfolding value_of text_after
value_whole piece x whole e = by (Rattle.std.specs.Prelude.nat_lt _ _) e
  where
    by : (b : Bool) → cond b (Some (text_after piece)) None ≡ Some x → IsWhole x
    by true e = subst IsWhole (same_Some _ x e) (trim_whole _ (after_whole piece whole))
    by false e = absurd (cc)

all_values : (ps : List (List ℕ)) → AllByRecursion IsWhole ps
    → All (λ p. (x : List ℕ) → value_of p ≡ Some x → IsWhole x) ps
all_values [] h = All-nil _
all_values (p ∷ ps) h =
    All-cons (λ q. (x : List ℕ) → value_of q ≡ Some x → IsWhole x) p ps (λ x e. value_whole p x h.0 e)
    (all_values ps h.1)

weaker : (A B : List ℕ → List ℕ → Type 0) → ((p x : List ℕ) → A p x → B p x) → (ps : List (List ℕ))
    → All (λ p. (x : List ℕ) → B p x → IsWhole x) ps → All (λ p. (x : List ℕ) → A p x → IsWhole x) ps
weaker A B f [] h = All-nil _
weaker A B f (p ∷ ps) h =
    All-cons (λ q. (x : List ℕ) → A q x → IsWhole x) p ps
    (λ x a. All-head (λ q. (x : List ℕ) → B q x → IsWhole x) p ps h x (f p x a))
    (weaker A B f ps (All-tail (λ q. (x : List ℕ) → B q x → IsWhole x) p ps h))

pub line_uncut : (line : List ℕ) (s : Seen) → IsUtf8 line → ReadsPlain line (Ok s) → IsUncut s.cookie
line_uncut line s utf8 h =
    let rest = h.attributes in
    let all = subst (AllByRecursion IsWhole) rest.1 (pieces_whole line utf8) in
    let values = all_values rest.0 all.1 in
    record {
      path = last_has GivesPath IsWhole rest.0 s.cookie.path
          (weaker GivesPath (λ p x. value_of p ≡ Some x) (λ p x g. g.says) rest.0 values) rest.2.path;
      domain = last_has GivesDomain IsWhole rest.0 s.cookie.domain
          (weaker GivesDomain (λ p x. value_of p ≡ Some x) (λ p x g. g.says.0) rest.0 values) rest.2.domain;
    }
