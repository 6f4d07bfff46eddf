-- Reading goes on by one piece.
use Rattle.std.proofs.Common.{◌<◌, ◌==◌, length, Result, Ok, arith, ◌≡◌, ◌≢◌, ℕ, Bool, true, false, cond, List, [], ◌∷◌}
use Rattle.std.proofs.Common.{◌++◌, Option, Some, None, bytes_eq, refl, sym, ap, subst, ◌∙◌, append_assoc}
use Rattle.std.proofs.lemmas.Option.{same_Some}
use Rattle.std.proofs.lemmas.List.Elements.{All-nil, All-cons, All-append}
use Rattle.cookie_text.specs.declared.attribute.Kind.{Kind}
use Rattle.cookie_text.specs.declared.attribute.Kind.TheVariants as kinds
use Rattle.cookie_text.specs.Record.{Record, Raw, Seen}
use Rattle.cookie_text.specs.Attribute.{Attribute, HttpOnly, Secure, Partitioned, OfSite, MaxAge, Path, Domain, Expires}
use Rattle.cookie_text.specs.Attribute.{kind, kind_name, Gives}
use Rattle.cookie_text.specs.Reading.{HasLast, HasAttributes, GivesFlag, GivesSite, GivesAge, GivesPath, GivesDomain}
use Rattle.cookie_text.specs.Reading.{GivesEnd, HasSlices, ReadsPlain, HasRest, first_piece}
use Rattle.cookie_text.specs.Pieces.{pieces, semicolon}
use Rattle.cookie_text.specs.declared.error.ParseError.{ParseError}
use Rattle.std.specs.List.{after_first, position_or_len}
use Rattle.std.proofs.lemmas.List.Splits.{slice_split_first, slice_split_none}
use Rattle.std.proofs.lemmas.List.Sums.{fails_before_first}
use Rattle.std.proofs.lemmas.List.{take_all}
use Rattle.std.proofs.lemmas.Result.{IfOk-weaker}
use Rattle.std.proofs.lemmas.List.Elements.{All-from_get_or}
use Rattle.cookie_text.specs.Steps.{ReadsFirst, ReadsFurther, with_attribute, with_slice}

-- a name has one kind
kind_from : List ℕ → Option Kind
kind_from name =
    cond (bytes_eq name (kind_name kinds.HttpOnly)) (Some kinds.HttpOnly)
    (cond (bytes_eq name (kind_name kinds.Secure)) (Some kinds.Secure)
    (cond (bytes_eq name (kind_name kinds.Partitioned)) (Some kinds.Partitioned)
    (cond (bytes_eq name (kind_name kinds.SameSite)) (Some kinds.SameSite)
    (cond (bytes_eq name (kind_name kinds.MaxAge)) (Some kinds.MaxAge)
    (cond (bytes_eq name (kind_name kinds.Path)) (Some kinds.Path)
    (cond (bytes_eq name (kind_name kinds.Domain)) (Some kinds.Domain)
    (Some kinds.Expires)))))))

kind_from-kind_name : (k : Kind) → kind_from (kind_name k) ≡ Some k
unfolding kind_from
kind_from-kind_name kinds.HttpOnly = refl
kind_from-kind_name kinds.Secure = refl
kind_from-kind_name kinds.Partitioned = refl
kind_from-kind_name kinds.SameSite = refl
kind_from-kind_name kinds.MaxAge = refl
kind_from-kind_name kinds.Path = refl
kind_from-kind_name kinds.Domain = refl
kind_from-kind_name kinds.Expires = refl

pub one_kind : (k l : Kind) → kind_name k ≡ kind_name l → k ≡ l
one_kind k l e = same_Some _ _ (sym (kind_from-kind_name k) ∙ ap kind_from e ∙ kind_from-kind_name l)

-- a piece gives attributes of one kind alone
pub same_kind : (p : List ℕ) (a b : Attribute) → Gives p a → Gives p b → kind a ≡ kind b
same_kind p a b g h = one_kind _ _ (sym g.named ∙ h.named)

-- one more piece, which gives a value
pub HasLast-yes : {A : Type 0} (gives : List ℕ → A → Type 0) (ps : List (List ℕ)) (p : List ℕ) (a : A) → gives p a
    → HasLast gives (ps ++ p ∷ []) (Some a)
HasLast-yes {A} gives ps p a g =
    record {
      before = ps;
      piece = p;
      after = [];
      split = refl;
      given = g;
      later = All-nil (λ q. (b : A) → ¬ (gives q b));
    }

-- one more piece, which gives none
pub HasLast-no : {A : Type 0} (gives : List ℕ → A → Type 0) (ps : List (List ℕ)) (p : List ℕ) (o : Option A)
    → ((b : A) → ¬ (gives p b)) → HasLast gives ps o → HasLast gives (ps ++ p ∷ []) o
HasLast-no {A} gives ps p None none h =
    let P : List ℕ → Type 0 = λ q. (b : A) → ¬ (gives q b) in
    All-append P ps (p ∷ []) h (All-cons P p [] none (All-nil P))
HasLast-no {A} gives ps p (Some a) none h =
    let P : List ℕ → Type 0 = λ q. (b : A) → ¬ (gives q b) in
    record {
      before = h.before;
      piece = h.piece;
      after = h.after ++ p ∷ [];
      split = ap (λ qs. qs ++ p ∷ []) h.split ∙ append_assoc h.before (h.piece ∷ h.after) (p ∷ []);
      given = h.given;
      later = All-append P h.after (p ∷ []) h.later (All-cons P p [] none (All-nil P));
    }

module _ (ps : List (List ℕ)) (p : List ℕ) where
  -- a piece that gives an attribute of another kind gives no value to this field
  other : (a b : Attribute) → Gives p a → kind a ≢ kind b → ¬ (Gives p b)
  other a b g ne h = ne (same_kind p a b g h)

  flag : (f a : Attribute) → Gives p a → kind a ≢ kind f → (o : Option Bool) → HasLast (GivesFlag f) ps o
      → HasLast (GivesFlag f) (ps ++ p ∷ []) o
  flag f a g ne o h = HasLast-no (GivesFlag f) ps p o (λ b x. other a f g ne x.0) h

  module _ (r : Record) (h : HasAttributes ps r) where
    http_only : (a : Attribute) → Gives p a → HasLast (GivesFlag HttpOnly) (ps ++ p ∷ []) (with_attribute r a).http_only
    http_only HttpOnly g = HasLast-yes (GivesFlag HttpOnly) ps p true (g, refl)
    http_only a g = flag HttpOnly a g (λ e. cc) r.http_only h.http_only

    secure : (a : Attribute) → Gives p a → HasLast (GivesFlag Secure) (ps ++ p ∷ []) (with_attribute r a).secure
    secure Secure g = HasLast-yes (GivesFlag Secure) ps p true (g, refl)
    secure a g = flag Secure a g (λ e. cc) r.secure h.secure

    partitioned : (a : Attribute) → Gives p a → HasLast (GivesFlag Partitioned) (ps ++ p ∷ [])
        (with_attribute r a).partitioned
    partitioned Partitioned g = HasLast-yes (GivesFlag Partitioned) ps p true (g, refl)
    partitioned a g = flag Partitioned a g (λ e. cc) r.partitioned h.partitioned

    same_site : (a : Attribute) → Gives p a → HasLast GivesSite (ps ++ p ∷ []) (with_attribute r a).same_site
    same_site (OfSite s) g = HasLast-yes GivesSite ps p s g
    same_site a g = HasLast-no GivesSite ps p r.same_site (λ s x. other a (OfSite s) g (λ e. cc) x) h.same_site

    max_age : (a : Attribute) → Gives p a → HasLast GivesAge (ps ++ p ∷ []) (with_attribute r a).max_age
    max_age (MaxAge z) g = HasLast-yes GivesAge ps p _ (z, g, refl)
    max_age a g = HasLast-no GivesAge ps p r.max_age (λ n x. other a (MaxAge x.0) g (λ e. cc) x.1) h.max_age

    path : (a : Attribute) → Gives p a → HasLast GivesPath (ps ++ p ∷ []) (with_attribute r a).path
    path (Path t) g = HasLast-yes GivesPath ps p t g
    path a g = HasLast-no GivesPath ps p r.path (λ t x. other a (Path t) g (λ e. cc) x) h.path

    domain : (a : Attribute) → Gives p a → HasLast GivesDomain (ps ++ p ∷ []) (with_attribute r a).domain
    domain (Domain t) g = HasLast-yes GivesDomain ps p t g
    domain a g = HasLast-no GivesDomain ps p r.domain (λ t x. other a (Domain t) g (λ e. cc) x) h.domain

    expires : (a : Attribute) → Gives p a → HasLast GivesEnd (ps ++ p ∷ []) (with_attribute r a).expires
    expires (Expires d) g = HasLast-yes GivesEnd ps p _ (d, g, refl)
    expires a g = HasLast-no GivesEnd ps p r.expires (λ t x. other a (Expires x.0) g (λ e. cc) x.1) h.expires

-- one more piece, and the attribute that it gives
pub HasAttributes-push : (ps : List (List ℕ)) (p : List ℕ) (r : Record) (a : Attribute) → HasAttributes ps r → Gives p a
    → HasAttributes (ps ++ p ∷ []) (with_attribute r a)
HasAttributes-push ps p r a h g = record {
  http_only = http_only ps p r h a g;
  secure = secure ps p r h a g;
  partitioned = partitioned ps p r h a g;
  same_site = same_site ps p r h a g;
  max_age = max_age ps p r h a g;
  path = path ps p r h a g;
  domain = domain ps p r h a g;
  expires = expires ps p r h a g;
}

-- one more piece, which gives none
pub HasAttributes-pass : (ps : List (List ℕ)) (p : List ℕ) (r : Record) → HasAttributes ps r
    → ((a : Attribute) → ¬ (Gives p a)) → HasAttributes (ps ++ p ∷ []) r
HasAttributes-pass ps p r h none = record {
  http_only = HasLast-no (GivesFlag HttpOnly) ps p r.http_only (λ b x. none HttpOnly x.0) h.http_only;
  secure = HasLast-no (GivesFlag Secure) ps p r.secure (λ b x. none Secure x.0) h.secure;
  partitioned = HasLast-no (GivesFlag Partitioned) ps p r.partitioned (λ b x. none Partitioned x.0) h.partitioned;
  same_site = HasLast-no GivesSite ps p r.same_site (λ s x. none (OfSite s) x) h.same_site;
  max_age = HasLast-no GivesAge ps p r.max_age (λ n x. none (MaxAge x.0) x.1) h.max_age;
  path = HasLast-no GivesPath ps p r.path (λ t x. none (Path t) x) h.path;
  domain = HasLast-no GivesDomain ps p r.domain (λ t x. none (Domain t) x) h.domain;
  expires = HasLast-no GivesEnd ps p r.expires (λ e x. none (Expires x.0) x.1) h.expires;
}

-- an attribute changes neither name nor value
same_name : (r : Record) (a : Attribute) → (with_attribute r a).name ≡ r.name
same_name r HttpOnly = refl
same_name r Secure = refl
same_name r Partitioned = refl
same_name r (OfSite s) = refl
same_name r (MaxAge z) = refl
same_name r (Path t) = refl
same_name r (Domain t) = refl
same_name r (Expires d) = refl

same_value : (r : Record) (a : Attribute) → (with_attribute r a).value ≡ r.value
same_value r HttpOnly = refl
same_value r Secure = refl
same_value r Partitioned = refl
same_value r (OfSite s) = refl
same_value r (MaxAge z) = refl
same_value r (Path t) = refl
same_value r (Domain t) = refl
same_value r (Expires d) = refl

same_name_raw : (r : Raw) (a : Attribute) → (with_slice r a).name ≡ r.name
same_name_raw r (Path t) = refl
same_name_raw r (Domain t) = refl
same_name_raw r _ = refl

same_value_raw : (r : Raw) (a : Attribute) → (with_slice r a).value ≡ r.value
same_value_raw r (Path t) = refl
same_value_raw r (Domain t) = refl
same_value_raw r _ = refl

sliced : (s : Seen) (a : Attribute) → HasSlices s → HasSlices
    (record { cookie = with_attribute s.cookie a; raw = with_slice s.raw a })
sliced s HttpOnly h = record { path = h.path; domain = h.domain }
sliced s Secure h = record { path = h.path; domain = h.domain }
sliced s Partitioned h = record { path = h.path; domain = h.domain }
sliced s (OfSite x) h = record { path = h.path; domain = h.domain }
sliced s (MaxAge z) h = record { path = h.path; domain = h.domain }
sliced s (Path t) h = record { path = refl; domain = h.domain }
sliced s (Domain t) h = record { path = h.path; domain = refl }
sliced s (Expires d) h = record { path = h.path; domain = h.domain }

pub ReadsFurther-push : (ps : List (List ℕ)) (p : List ℕ) (old s t : Seen) (a : Attribute) → ReadsFurther ps old s
    → Gives p a → t.cookie ≡ with_attribute s.cookie a → t.raw ≡ with_slice s.raw a → ReadsFurther (ps ++ p ∷ []) old t
ReadsFurther-push ps p old s t a h g is_cookie is_raw = record {
  name = ap (λ r. r.name) is_cookie ∙ same_name s.cookie a ∙ h.name;
  value = ap (λ r. r.value) is_cookie ∙ same_value s.cookie a ∙ h.value;
  name_raw = ap (λ r. r.name) is_raw ∙ same_name_raw s.raw a ∙ h.name_raw;
  value_raw = ap (λ r. r.value) is_raw ∙ same_value_raw s.raw a ∙ h.value_raw;
  attributes = subst (HasAttributes (ps ++ p ∷ [])) (sym is_cookie) (HasAttributes-push ps p s.cookie a h.attributes g);
  sliced = let whole : t ≡ record { cookie = with_attribute s.cookie a; raw = with_slice s.raw a } = λ i. record {
    cookie = is_cookie i;
    raw = is_raw i;
  } in
      subst HasSlices (sym whole) (sliced s a h.sliced);
}

pub ReadsFurther-pass : (ps : List (List ℕ)) (p : List ℕ) (old s : Seen) → ReadsFurther ps old s
    → ((a : Attribute) → ¬ (Gives p a)) → ReadsFurther (ps ++ p ∷ []) old s
ReadsFurther-pass ps p old s h none = record {
  name = h.name;
  value = h.value;
  name_raw = h.name_raw;
  value_raw = h.value_raw;
  attributes = HasAttributes-pass ps p s.cookie h.attributes none;
  sliced = h.sliced;
}

-- no name is both empty and not
pub not_empty : (name : List ℕ) → 0 < length name → name ≢ []
not_empty name some none = let size : length name ≡ 0 = ap length none in omega (arith, some)

-- the pieces of a text with a semicolon
pub rest_of : (text first rest : List ℕ) (r : Record) → position_or_len (λ b. b == semicolon) text < length text
    → rest ≡ after_first (λ b. b == semicolon) text → HasAttributes (pieces rest) r → HasRest text r
rest_of text first rest r holds is_rest h = (
  pieces rest,
  slice_split_first (λ b. b == semicolon) text 0 holds
      ∙ ap (λ q. first_piece text ∷ pieces q) (sym is_rest),
  h,
)

-- the first piece and the rest of a text with a semicolon
pub ReadsPlain-further : (text first rest : List ℕ) (s t : Seen)
    → position_or_len (λ b. b == semicolon) text < length text → first ≡ first_piece text
    → rest ≡ after_first (λ b. b == semicolon) text → ReadsFirst first (Ok s) → ReadsFurther (pieces rest) s t
    → ReadsPlain text (Ok t)
ReadsPlain-further text first rest s t holds is_first is_rest h f =
    let k = subst (λ p. ReadsFirst p (Ok s)) is_first h in
    let pair = k.accepted.0 refl in
    record {
      accepted = (λ _. pair, λ _. refl);
      name = (pair.0, f.name ∙ k.name.1, subst (λ n. 0 < length n) (sym f.name) k.name.2);
      value = f.value ∙ k.value;
      attributes = rest_of text first rest t.cookie holds is_rest f.attributes;
      raw = record {
        name = f.name_raw ∙ k.raw.name ∙ ap (λ n. Some n) (sym f.name);
        value = f.value_raw ∙ k.raw.value ∙ ap (λ n. Some n) (sym f.value);
        path = f.sliced.path;
        domain = f.sliced.domain;
      };
      missing_pair = (λ e. cc, λ no. absurd (no pair.0));
      empty_name = (λ e. cc, λ both. absurd (not_empty _ pair.1 both.1));
    }

-- a text without one has one piece
pub one_piece : (text : List ℕ) → position_or_len (λ b. b == semicolon) text ≡ length text → first_piece text ≡ text
one_piece text none = take_all (position_or_len (λ b. b == semicolon) text) text (omega arith)

pub no_rest : (text : List ℕ) (r : Record) → position_or_len (λ b. b == semicolon) text ≡ length text
    → HasAttributes [] r → HasRest text r
no_rest text r none h =
    let is_cut : ℕ → Bool = λ b. b == semicolon in
    let fails = All-from_get_or (λ b. is_cut b ≡ false) text 0
    (λ i within. fails_before_first is_cut text i 0 (omega arith)) in
    ([], slice_split_none is_cut text fails ∙ ap (λ p. p ∷ []) (sym (one_piece text none)), h)

pub ReadsPlain-whole : (text : List ℕ) (r : Result Seen ParseError)
    → position_or_len (λ b. b == semicolon) text ≡ length text → ReadsFirst text r → ReadsPlain text r
ReadsPlain-whole text r none h =
    let k = subst (λ p. ReadsFirst p r) (sym (one_piece text none)) h in
    record {
      accepted = k.accepted;
      name = k.name;
      value = k.value;
      attributes = IfOk-weaker r _ _ (λ s a. no_rest text s.cookie none a) k.attributes;
      raw = k.raw;
      missing_pair = k.missing_pair;
      empty_name = k.empty_name;
    }
