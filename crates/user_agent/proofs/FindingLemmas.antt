-- One token after another is offered to the kinds that weren't found before: so the first of each kind is found.
use Rattle.std.proofs.Common.{◌≡◌, ◌⊎◌, inl, inr, ℕ, List, [], ◌∷◌, ◌++◌, Option, Some, None, MatchOption, refl}
use Rattle.std.proofs.Common.{sym, ap, subst}
use Rattle.std.proofs.Common.{◌∙◌, true≢false}
use Rattle.std.specs.List.{AllByRecursion}
use Rattle.std.specs.Option.{IsSome}
use Rattle.user_agent.specs.declared.dates.Found.{Found}
use Rattle.user_agent.specs.Dates.{Date, IsTime, IsDay, IsMonth, IsYear, IsFirst, Shows, date_tokens}
use Rattle.user_agent.specs.Fields.{Offers, Takes, Makes, nothing}
use Rattle.user_agent.proofs.TokenLemmas.{one_number, one_time, one_month}

-- the token, where there is one
abbrev pub in_front : Option (List ℕ) → List (List ℕ) → List (List ℕ)
in_front None tokens = tokens
in_front (Some token) tokens = token ∷ tokens

-- a kind says one thing of a token
abbrev pub IsOneKind : {A : Type 0} → (List ℕ → A → Type 0) → Type 0
IsOneKind {A} Kind = (token : List ℕ) (x y : A) → Kind token x → Kind token y → x ≡ y

-- what a kind's place says by these tokens, and the tokens that are left
abbrev pub Fills : {A : Type 0} → (List ℕ → A → Type 0) → Option A → List (List ℕ) → A → List (List ℕ) → Type 0
Fills {A} Kind None tokens says others = IsFirst Kind tokens says others
Fills {A} Kind (Some x) tokens says others = (says ≡ x) × (others ≡ tokens)

module _ {A : Type 0} (Kind : List ℕ → A → Type 0) (one : IsOneKind Kind) where
  -- the first token isn't of the kind
  pub first_passed : (token : List ℕ) (tokens others : List (List ℕ)) (says : A) → ((x : A) → ¬ (Kind token x))
      → IsFirst Kind (token ∷ tokens) says others
      → (left : List (List ℕ)) × (others ≡ token ∷ left) × IsFirst Kind tokens says left
  first_passed token tokens others says none f = by f.before f.cut f.none_before f.left
    where
      by : (before : List (List ℕ)) → token ∷ tokens ≡ before ++ f.token ∷ f.after
          → AllByRecursion (λ t. (x : A) → ¬ (Kind t x)) before → others ≡ before ++ f.after
          → (left : List (List ℕ)) × (others ≡ token ∷ left) × IsFirst Kind tokens says left
      by [] cut all left =
          let same : f.token ≡ token = cc in
          absurd (none says (subst (λ t. Kind t says) same f.is))
      by (b ∷ bs) cut all left =
          let head : b ≡ token = cc in
          let tail : tokens ≡ bs ++ f.token ∷ f.after = cc in (
            bs ++ f.after,
            left ∙ ap (λ t. t ∷ bs ++ f.after) head,
            record {
              before = bs;
              token = f.token;
              after = f.after;
              cut = tail;
              none_before = all.1;
              is = f.is;
              left = refl;
            },
          )

  pub first_more : (token : List ℕ) (tokens left : List (List ℕ)) (says : A) → ((x : A) → ¬ (Kind token x))
      → IsFirst Kind tokens says left → IsFirst Kind (token ∷ tokens) says (token ∷ left)
  first_more token tokens left says none f = record {
    before = token ∷ f.before;
    token = f.token;
    after = f.after;
    cut = ap (λ ts. token ∷ ts) f.cut;
    none_before = (none, f.none_before);
    is = f.is;
    left = ap (λ ts. token ∷ ts) f.left;
  }

  -- the first token is of the kind
  pub first_here : (token : List ℕ) (tokens others : List (List ℕ)) (x says : A) → Kind token x
      → IsFirst Kind (token ∷ tokens) says others → (says ≡ x) × (others ≡ tokens)
  first_here token tokens others x says is f = by f.before f.cut f.none_before f.left
    where
      by : (before : List (List ℕ)) → token ∷ tokens ≡ before ++ f.token ∷ f.after
          → AllByRecursion (λ t. (y : A) → ¬ (Kind t y)) before → others ≡ before ++ f.after
          → (says ≡ x) × (others ≡ tokens)
      by [] cut all left =
          let same : f.token ≡ token = cc in
          let tail : f.after ≡ tokens = cc in
          (one token says x (subst (λ t. Kind t says) same f.is) is, left ∙ tail)
      by (b ∷ bs) cut all left =
          let head : token ≡ b = cc in
          absurd (all.0 x (subst (λ t. Kind t x) head is))

  pub here_first : (token : List ℕ) (tokens : List (List ℕ)) (x : A) → Kind token x
      → IsFirst Kind (token ∷ tokens) x tokens
  here_first token tokens x is = record {
    before = [];
    token = token;
    after = tokens;
    cut = refl;
    none_before = tt;
    is = is;
    left = refl;
  }

  pub offered : (old new : Option A) (token left : Option (List ℕ)) → Offers Kind old new token left
      → (tokens others : List (List ℕ)) (says : A) → Fills Kind old (in_front token tokens) says others
      → (rest : List (List ℕ)) × (others ≡ in_front left rest) × Fills Kind new tokens says rest
  offered old new None left o tokens others says f = (
    others,
    ap (λ l. in_front l others) (sym o.1),
    subst (λ p. Fills Kind p tokens says others) (sym o.0) f,
  )
  offered old new (Some token) left (inl o) tokens others says f =
      let first : IsFirst Kind (token ∷ tokens) says others = subst
      (λ p. Fills Kind p (token ∷ tokens) says others) o.1 f in
      let here = first_here token tokens others o.0 says o.2 first in (
        tokens,
        here.1 ∙ ap (λ l. in_front l tokens) (sym o.4),
        subst (λ p. Fills Kind p tokens says tokens) (sym o.3) (here.0, refl),
      )
  offered old new (Some token) left (inr o) tokens others says f =
      let split = by old o.0 f in (
        split.0,
        split.1 ∙ ap (λ l. in_front l split.0) (sym o.2),
        subst (λ p. Fills Kind p tokens says split.0) (sym o.1) split.2,
      )
    where
      by : (place : Option A) → IsSome place ⊎ ((x : A) → ¬ (Kind token x))
          → Fills Kind place (token ∷ tokens) says others
          → (rest : List (List ℕ)) × (others ≡ token ∷ rest) × Fills Kind place tokens says rest
      by (Some x) full filled = (tokens, filled.1, (filled.0, refl))
      by None (inl some) filled = absurd (true≢false (sym some))
      by None (inr none) filled = first_passed token tokens others says none filled

  pub offers : (old new : Option A) (token left : Option (List ℕ)) → Offers Kind old new token left
      → (tokens rest : List (List ℕ)) (says : A) → Fills Kind new tokens says rest
      → Fills Kind old (in_front token tokens) says (in_front left rest)
  offers old new None left o tokens rest says f =
      let same : rest ≡ in_front left rest = ap (λ l. in_front l rest) (sym o.1) in
      subst (λ r. Fills Kind old tokens says r) same (subst (λ p. Fills Kind p tokens says rest) o.0 f)
  offers old new (Some token) left (inl o) tokens rest says f =
      let filled : Fills Kind (Some o.0) tokens says rest = subst (λ p. Fills Kind p tokens says rest) o.3 f in
      let first : IsFirst Kind (token ∷ tokens) o.0 tokens = here_first token tokens o.0 o.2 in
      let left_is : tokens ≡ in_front left rest = sym filled.1 ∙ ap (λ l. in_front l rest) (sym o.4) in
      subst (λ p. Fills Kind p (token ∷ tokens) says (in_front left rest)) (sym o.1)
      (subst (λ r. IsFirst Kind (token ∷ tokens) says r) left_is
      (subst (λ x. IsFirst Kind (token ∷ tokens) x tokens) (sym filled.0) first))
  offers old new (Some token) left (inr o) tokens rest says f =
      subst (λ r. Fills Kind old (token ∷ tokens) says r) (ap (λ l. in_front l rest) (sym o.2))
      (by old o.0 (subst (λ p. Fills Kind p tokens says rest) o.1 f))
    where
      by : (place : Option A) → IsSome place ⊎ ((x : A) → ¬ (Kind token x)) → Fills Kind place tokens says rest
          → Fills Kind place (token ∷ tokens) says (token ∷ rest)
      by (Some x) full filled = (filled.0, ap (λ ts. token ∷ ts) filled.1)
      by None (inl some) filled = absurd (true≢false (sym some))
      by None (inr none) filled = first_more token tokens rest says none filled

  -- what a place says where no token is left
  pub at_end : (place : Option A) (tokens others : List (List ℕ)) (says : A) → tokens ≡ []
      → Fills Kind place tokens says others → (place ≡ Some says) × (others ≡ [])
  at_end None tokens others says none f = absurd (no_token f.before (sym none ∙ f.cut))
    where
      no_token : (before : List (List ℕ)) → [] ≡ before ++ f.token ∷ f.after → ⊥
      no_token [] e = cc
      no_token (b ∷ bs) e = cc
  at_end (Some x) tokens others says none f = (ap Some (sym f.0), f.1 ∙ none)

  -- how a token is offered: what was read of it was taken, or passed over
  pub took : (old new read : Option A) (token : List ℕ)
      → MatchOption read ((x : A) → ¬ (Kind token x)) (Kind token) → (old ≡ None) × IsSome read × (new ≡ read)
      → Offers Kind old new (Some token) None
  took old new None token read h = absurd (true≢false (sym h.1))
  took old new (Some x) token read h = inl (x, h.0, read, h.2, refl)

  pub passed : (old new read : Option A) (token : List ℕ)
      → MatchOption read ((x : A) → ¬ (Kind token x)) (Kind token) → (IsSome old ⊎ (read ≡ None)) × (new ≡ old)
      → Offers Kind old new (Some token) (Some token)
  passed old new read token is (inl some, same) = inr (inl some, same, refl)
  passed old new None token is (inr none, same) = inr (inr is, same, refl)
  passed old new (Some x) token is (inr none, same) = absurd (cc none)

-- what the places say by these tokens
pub record Says (f : Found) (tokens : List (List ℕ)) (time : ℕ × ℕ × ℕ) (day month year : ℕ) : Type 0 where
  pub timeless : List (List ℕ)
  pub dayless : List (List ℕ)
  pub monthless : List (List ℕ)
  pub yearless : List (List ℕ)
  pub of_time : Fills IsTime f.time tokens time timeless
  pub of_day : Fills IsDay f.day timeless day dayless
  pub of_month : Fills IsMonth f.month dayless month monthless
  pub of_year : Fills IsYear f.year monthless year yearless

-- one token after another
abbrev pub TakesAll : Found → List (List ℕ) → Found → Type 0
TakesAll old [] new = new ≡ old
TakesAll old (token ∷ tokens) new = (mid : Found) × Takes old token mid × TakesAll mid tokens new

pub takes_one_more : (tokens : List (List ℕ)) (old mid new : Found) (token : List ℕ) → TakesAll old tokens mid
    → Takes mid token new → TakesAll old (tokens ++ token ∷ []) new
takes_one_more [] old mid new token e takes = (new, subst (λ f. Takes f token new) e takes, refl)
takes_one_more (t ∷ ts) old mid new token (next, first, all) takes =
    (next, first, takes_one_more ts next mid new token all takes)

module _ (time : ℕ × ℕ × ℕ) (day month year : ℕ) where
  after_token : (old new : Found) (token : List ℕ) (tokens : List (List ℕ)) → Takes old token new
      → Says old (token ∷ tokens) time day month year → Says new tokens time day month year
  after_token old new token tokens takes s =
      let a = offered IsTime one_time old.time new.time (Some token) takes.timeless takes.time tokens s.timeless time
      s.of_time in
      let b = offered IsDay one_number old.day new.day takes.timeless takes.dayless takes.day a.0 s.dayless day
      (subst (λ ts. Fills IsDay old.day ts day s.dayless) a.1 s.of_day) in
      let c = offered IsMonth one_month old.month new.month takes.dayless takes.monthless takes.month b.0 s.monthless
      month (subst (λ ts. Fills IsMonth old.month ts month s.monthless) b.1 s.of_month) in
      let d = offered IsYear one_number old.year new.year takes.monthless takes.yearless takes.year c.0 s.yearless year
      (subst (λ ts. Fills IsYear old.year ts year s.yearless) c.1 s.of_year) in
      record {
        timeless = a.0;
        dayless = b.0;
        monthless = c.0;
        yearless = d.0;
        of_time = a.2;
        of_day = b.2;
        of_month = c.2;
        of_year = d.2;
      }

  before_token : (old new : Found) (token : List ℕ) (tokens : List (List ℕ)) → Takes old token new
      → Says new tokens time day month year → Says old (token ∷ tokens) time day month year
  before_token old new token tokens takes s = record {
    timeless = in_front takes.timeless s.timeless;
    dayless = in_front takes.dayless s.dayless;
    monthless = in_front takes.monthless s.monthless;
    yearless = in_front takes.yearless s.yearless;
    of_time =
        offers IsTime one_time old.time new.time (Some token) takes.timeless takes.time tokens s.timeless time
        s.of_time;
    of_day =
        offers IsDay one_number old.day new.day takes.timeless takes.dayless takes.day s.timeless s.dayless day
        s.of_day;
    of_month =
        offers IsMonth one_month old.month new.month takes.dayless takes.monthless takes.month s.dayless s.monthless
        month s.of_month;
    of_year =
        offers IsYear one_number old.year new.year takes.monthless takes.yearless takes.year s.monthless s.yearless year
        s.of_year;
  }

  -- all four were found
  abbrev pub AreFound : Found → Type 0
  AreFound f = (f.time ≡ Some time) × (f.day ≡ Some day) × (f.month ≡ Some month) × (f.year ≡ Some year)

  pub found_all : (tokens : List (List ℕ)) (old new : Found) → TakesAll old tokens new
      → Says old tokens time day month year → AreFound new
  found_all [] old new e s =
      let a = at_end IsTime one_time old.time [] s.timeless time refl s.of_time in
      let b = at_end IsDay one_number old.day s.timeless s.dayless day a.1 s.of_day in
      let c = at_end IsMonth one_month old.month s.dayless s.monthless month b.1 s.of_month in
      let d = at_end IsYear one_number old.year s.monthless s.yearless year c.1 s.of_year in
      subst AreFound (sym e) (a.0, b.0, c.0, d.0)
  found_all (token ∷ tokens) old new (mid, first, all) s =
      found_all tokens mid new all (after_token old mid token tokens first s)

  pub all_found : (tokens : List (List ℕ)) (old new : Found) → TakesAll old tokens new → AreFound new
      → Says old tokens time day month year
  all_found [] old new e f =
      let g : AreFound old = subst AreFound e f in
      record {
        timeless = [];
        dayless = [];
        monthless = [];
        yearless = [];
        of_time = subst (λ p. Fills IsTime p [] time []) (sym g.0) (refl, refl);
        of_day = subst (λ p. Fills IsDay p [] day []) (sym g.1) (refl, refl);
        of_month = subst (λ p. Fills IsMonth p [] month []) (sym g.2) (refl, refl);
        of_year = subst (λ p. Fills IsYear p [] year []) (sym g.3) (refl, refl);
      }
  all_found (token ∷ tokens) old new (mid, first, all) f =
      before_token old mid token tokens first (all_found tokens mid new all f)

-- what is found of a text's tokens is what the text shows
module _ (text : List ℕ) (found : Found) (all : TakesAll nothing (date_tokens text) found) (d : Date) where
  pub makes_shown : Shows text d → Makes found d
  makes_shown s =
      let f = found_all (d.hour, d.minute, d.second) d.day d.month s.written (date_tokens text) nothing found all
      (record {
        timeless = s.timeless;
        dayless = s.dayless;
        monthless = s.monthless;
        yearless = s.yearless;
        of_time = s.time;
        of_day = s.day;
        of_month = s.month;
        of_year = s.year;
      }) in
      record {
        written = s.written;
        time = f.0;
        day = f.1;
        month = f.2;
        year = f.3;
        full = s.full;
        late = s.late;
        exists = s.exists;
      }

  pub shows_made : Makes found d → Shows text d
  shows_made m =
      let s = all_found (d.hour, d.minute, d.second) d.day d.month m.written (date_tokens text) nothing found all
      (m.time, m.day, m.month, m.year) in
      record {
        timeless = s.timeless;
        dayless = s.dayless;
        monthless = s.monthless;
        yearless = s.yearless;
        written = m.written;
        time = s.of_time;
        day = s.of_day;
        month = s.of_month;
        year = s.of_year;
        full = m.full;
        late = m.late;
        exists = m.exists;
      }
