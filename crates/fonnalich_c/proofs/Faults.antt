-- Of several faults the first is told.
use Rattle.std.proofs.Common.{◌≡◌, ◌⊎◌, ◌≤◌, ◌<◌, ◌≤ℤ◌, ℕ, ℤ, Bool, true, false, true≢false, List, length, Option, Some}
use Rattle.std.proofs.Common.{None, Result, Ok, Err, inl, inr, refl, sym, subst}
use Rattle.std.proofs.Math.Nat.{lt_of_not-le}
use Rattle.std.specs.Prelude.{option_map, IsOk, ◌↔◌}
use Rattle.std.specs.Int.Signed.{≤ℤ_refl}
use Rattle.jiff.specs.Types.{DateTime}
use Rattle.jiff.specs.Words.{civil_nanos, IsCivilNanos}
use Rattle.jiff.proofs.Family.{civil_nanos_range}
use Rattle.url.specs.Parts.{Parts}
use Rattle.user_agent.specs.declared.rules.Rules.{Rules}
use Rattle.cookie_store.specs.Placing.{saved}
use Rattle.cookie_store.specs.Rows.{Key, Row, Store}
use Rattle.cookie_store.specs.SavedTexts.{IsAnyBeforeYears}
use Rattle.cookie_client.specs.Loading.{IsNoSavedText}
use Rattle.cookie_client.specs.Hosts.{url_of}
use Rattle.fonnalich_c.specs.Exchange.{IsOpeningFault, IsShortKey}
use Rattle.fonnalich_c.specs.Faults.{IsFirst, IsTold}
use Rattle.fonnalich_c.specs.Given.{IsNoMoment, IsNoUrl, IsUrl, nanos_of}
use Rattle.fonnalich_c.specs.Numbers.{refusal_number}
use Rattle.fonnalich_c.specs.One.{IsKeyText, IsPickFault}
use Rattle.fonnalich_c.specs.Parts.{AreTexts, EndsAtNoMoment, IsUnmade, Texts, counted}
use Rattle.fonnalich_c.specs.Started.{HeadsSo, IsHeaderFault, IsNoPageOf, IsPageOf, IsRequestFault, Request}
use Rattle.fonnalich_c.specs.Tasks.{IsNoLoadBy, IsSavingFault}
use Rattle.fonnalich_c.specs.declared.attributes.Attributes.{Attributes}
use Rattle.fonnalich_c.specs.declared.refusal.Refusal.{Refusal}
use Rattle.fonnalich_c.specs.declared.refusal.Refusal.TheVariants as refusal
use Rattle.fonnalich_c.specs.declared.started.Start.{Start}
use Rattle.fonnalich_c.specs.declared.started.Start.TheVariants as start

-- ---- two faults and three, in the order of their numbers

abbrev IsBefore : Refusal → Refusal → Type 0
IsBefore first second = refusal_number second ≤ℤ refusal_number first

numbered : (refused first other second : Refusal) → refused ≡ first → other ≡ second → IsBefore first second
    → refusal_number other ≤ℤ refusal_number refused
numbered refused first other second is so before =
    subst (λ r. refusal_number other ≤ℤ refusal_number r) (sym is)
    (subst (λ o. refusal_number o ≤ℤ refusal_number first) (sym so) before)

abbrev pub Two : Refusal → Type 0 → Refusal → Type 0 → Refusal → Type 0
Two first A second B refused = ((refused ≡ first) × A) ⊎ ((refused ≡ second) × B)

abbrev pub Three : Refusal → Type 0 → Refusal → Type 0 → Refusal → Type 0 → Refusal → Type 0
Three first A second B third C refused =
    ((refused ≡ first) × A) ⊎ ((refused ≡ second) × B) ⊎ ((refused ≡ third) × C)

first_of_two : (first second : Refusal) (A B : Type 0) (refused : Refusal) → IsBefore first second
    → (refused ≡ first) × A → IsFirst (Two first A second B) refused
first_of_two first second A B refused before why = (inl why, behind)
  where
    behind : (other : Refusal) → Two first A second B other → refusal_number other ≤ℤ refusal_number refused
    behind other (inl so) = numbered refused first other first why.0 so.0 (≤ℤ_refl (refusal_number first))
    behind other (inr so) = numbered refused first other second why.0 so.0 before

second_of_two : (first second : Refusal) (A B : Type 0) (refused : Refusal) → ¬ A → (refused ≡ second) × B
    → IsFirst (Two first A second B) refused
second_of_two first second A B refused never why = (inr why, behind)
  where
    behind : (other : Refusal) → Two first A second B other → refusal_number other ≤ℤ refusal_number refused
    behind other (inl so) = absurd (never so.1)
    behind other (inr so) = numbered refused second other second why.0 so.0 (≤ℤ_refl (refusal_number second))

pub first_of_three : (first second third : Refusal) (A B C : Type 0) (refused : Refusal) → IsBefore first second
    → IsBefore first third → (refused ≡ first) × A → IsFirst (Three first A second B third C) refused
first_of_three first second third A B C refused before_second before_third why = (inl why, behind)
  where
    behind : (other : Refusal) → Three first A second B third C other
        → refusal_number other ≤ℤ refusal_number refused
    behind other (inl so) = numbered refused first other first why.0 so.0 (≤ℤ_refl (refusal_number first))
    behind other (inr (inl so)) = numbered refused first other second why.0 so.0 before_second
    behind other (inr (inr so)) = numbered refused first other third why.0 so.0 before_third

pub second_of_three : (first second third : Refusal) (A B C : Type 0) (refused : Refusal) → IsBefore second third
    → ¬ A → (refused ≡ second) × B → IsFirst (Three first A second B third C) refused
second_of_three first second third A B C refused before never why = (inr (inl why), behind)
  where
    behind : (other : Refusal) → Three first A second B third C other
        → refusal_number other ≤ℤ refusal_number refused
    behind other (inl so) = absurd (never so.1)
    behind other (inr (inl so)) = numbered refused second other second why.0 so.0 (≤ℤ_refl (refusal_number second))
    behind other (inr (inr so)) = numbered refused second other third why.0 so.0 before

pub third_of_three : (first second third : Refusal) (A B C : Type 0) (refused : Refusal) → ¬ A → ¬ B
    → (refused ≡ third) × C → IsFirst (Three first A second B third C) refused
third_of_three first second third A B C refused never nor why = (inr (inr why), behind)
  where
    behind : (other : Refusal) → Three first A second B third C other
        → refusal_number other ≤ℤ refusal_number refused
    behind other (inl so) = absurd (never so.1)
    behind other (inr (inl so)) = absurd (nor so.1)
    behind other (inr (inr so)) = numbered refused third other third why.0 so.0 (≤ℤ_refl (refusal_number third))

-- ---- what is at no fault

pub is_moment : (at : DateTime) (second : ℤ) → civil_nanos at ≡ nanos_of second → ¬ IsNoMoment second
is_moment at second same none = none (subst IsCivilNanos same (civil_nanos_range at))

pub is_url : (subject : List ℕ) (url : Parts) → IsUrl subject url → ¬ IsNoUrl subject
is_url subject url is (inl no_text) = no_text is.0
is_url subject url is (inr none) = none_some (url_of subject) url none is.1
  where
    none_some : (found : Option Parts) (it : Parts) → found ≡ None → found ≡ Some it → ⊥
    none_some found it none some = cc

is_page : (start : Start) (text : List ℕ) (page : Option Parts) → IsPageOf start text page → ¬ IsNoPageOf start text
is_page start.User text page is none = none
is_page start.Page text None is none = is
is_page start.Page text (Some page) is none = is_url text page is none
is_page start.Navigation text None is none = is
is_page start.Navigation text (Some page) is none = is_url text page is none

-- ---- a request

pub url_unread : (request : Request) (refused : Refusal) → ¬ IsNoMoment request.second
    → (refused ≡ refusal.Memory)
    ⊎ ((refused ≡ refusal.Url) × (IsNoUrl request.url ⊎ IsNoPageOf request.start request.page))
    → IsTold (IsRequestFault request) refused
url_unread request refused is (inl memory) = inl memory
url_unread request refused is (inr why) =
    inr (second_of_two refusal.Moment refusal.Url (IsNoMoment request.second)
    (IsNoUrl request.url ⊎ IsNoPageOf request.start request.page) refused is why)

-- the header comes behind these
pub unheaded : (rules : Rules) (request : Request) (store : Store) (refused : Refusal)
    → IsTold (IsRequestFault request) refused → IsTold (IsHeaderFault rules request store) refused
unfolding IsHeaderFault
unheaded rules request store refused (inl memory) = inl memory
unheaded rules request store refused (inr (inl why, first)) =
    inr (first_of_three refusal.Moment refusal.Url refusal.Line (IsNoMoment request.second)
    (IsNoUrl request.url ⊎ IsNoPageOf request.start request.page)
    ((header : List ℕ) × HeadsSo true rules request store header) refused (record { le = tt }) (record { le = tt }) why)
unheaded rules request store refused (inr (inr why, first)) =
    inr (second_of_three refusal.Moment refusal.Url refusal.Line (IsNoMoment request.second)
    (IsNoUrl request.url ⊎ IsNoPageOf request.start request.page)
    ((header : List ℕ) × HeadsSo true rules request store header) refused (record { le = tt }) never why)
  where
    -- a moment's fault would be told before
    never : ¬ IsNoMoment request.second
    never none =
        let nearer : refusal_number refusal.Moment ≤ℤ refusal_number refusal.Url =
        subst (λ r. refusal_number refusal.Moment ≤ℤ refusal_number r) why.0
        (first refusal.Moment (inl (refl, none))) in
        nearer.le

pub line_unheaded : (rules : Rules) (request : Request) (store : Store) (url : Parts) (page : Option Parts)
    (refused : Refusal) → ¬ IsNoMoment request.second → IsUrl request.url url
    → IsPageOf request.start request.page page
    → (refused ≡ refusal.Line) × ((header : List ℕ) × HeadsSo true rules request store header)
    → IsTold (IsHeaderFault rules request store) refused
unfolding IsHeaderFault
line_unheaded rules request store url page refused is at from why =
    inr (third_of_three refusal.Moment refusal.Url refusal.Line (IsNoMoment request.second)
    (IsNoUrl request.url ⊎ IsNoPageOf request.start request.page)
    ((header : List ℕ) × HeadsSo true rules request store header) refused is neither why)
  where
    neither : ¬ (IsNoUrl request.url ⊎ IsNoPageOf request.start request.page)
    neither (inl none) = is_url request.url url at none
    neither (inr none) = is_page request.start request.page page from none

-- ---- a second and a key of a cookie

pub text_unpicked : (second : ℤ) (key : Key) (refused : Refusal) → ¬ IsNoMoment second
    → (refused ≡ refusal.Text) × (¬ IsKeyText key) → IsTold (IsPickFault second key) refused
text_unpicked second key refused is why =
    inr (second_of_two refusal.Moment refusal.Text (IsNoMoment second) (¬ IsKeyText key) refused is why)

-- ---- a second and rows

abbrev BeforeYears : ℤ → List Row → Type 0
BeforeYears second rows = IsAnyBeforeYears (saved (nanos_of second) rows)

pub year_unsaved : (second : ℤ) (rows : List Row) (refused : Refusal) → ¬ IsNoMoment second
    → (refused ≡ refusal.Year) × IsAnyBeforeYears (saved (nanos_of second) rows)
    → IsTold (IsSavingFault second rows) refused
year_unsaved second rows refused is why =
    inr (second_of_two refusal.Moment refusal.Year (IsNoMoment second) (BeforeYears second rows) refused is why)

-- ---- a second and a saved text

pub moment_unloaded : (second : ℤ) (saved : List ℕ) (refused : Refusal) → (refused ≡ refusal.Moment) × IsNoMoment second
    → IsNoLoadBy second saved refused
unfolding IsNoLoadBy
moment_unloaded second saved refused why =
    inl (inr (first_of_two refusal.Moment refusal.Saved (IsNoMoment second) (IsNoSavedText saved) refused (record {
      le = tt;
    }) why))

pub memory_unloaded : (second : ℤ) (saved : List ℕ) (refused : Refusal) → refused ≡ refusal.Memory
    → IsNoLoadBy second saved refused
unfolding IsNoLoadBy
memory_unloaded second saved refused memory = inl (inl memory)

pub saved_unloaded : (second : ℤ) (saved : List ℕ) (refused : Refusal) → ¬ IsNoMoment second
    → (refused ≡ refusal.Read) ⊎ (refused ≡ refusal.Memory) ⊎ ((refused ≡ refusal.Saved) × IsNoSavedText saved)
    → IsNoLoadBy second saved refused
unfolding IsNoLoadBy
saved_unloaded second saved refused at (inl read) = inr (read, at)
saved_unloaded second saved refused at (inr (inl memory)) = inl (inl memory)
saved_unloaded second saved refused at (inr (inr why)) =
    inl (inr (second_of_two refusal.Moment refusal.Saved (IsNoMoment second) (IsNoSavedText saved) refused at why))

-- ---- a second and a key

not_ok : {A E : Type 0} (r : Result A E) → ((x : A) → ¬ (r ≡ Ok x)) → ¬ (IsOk r)
not_ok (Ok x) never is = never x refl
not_ok (Err e) never is = absurd (cc is)

-- what isn't accepted has too few bytes
pub too_short : {A E : Type 0} (key : List ℕ) (r : Result A E) → ((x : A) → ¬ (r ≡ Ok x))
    → (IsOk r ↔ (64 ≤ length key)) → length key < 64
too_short key r never accepted = lt_of_not-le (λ long. not_ok r never (accepted.1 long))

pub key_unopened : (key : List ℕ) (second : ℤ) (refused : Refusal) → ¬ IsNoMoment second → IsShortKey key refused
    → IsTold (IsOpeningFault (IsShortKey key) second) refused
key_unopened key second refused is why =
    inr (second_of_two refusal.Moment refusal.Key (IsNoMoment second) (length key < 64) refused is why)

-- ---- a second, texts and a number of an attribute `SameSite`

pub is_end : (has : Bool) (second : ℤ) (at : Option DateTime)
    → option_map civil_nanos at ≡ option_map nanos_of (counted has second) → ¬ ((has ≡ true) × IsNoMoment second)
is_end false second at same none = true≢false (sym none.0)
is_end true second None same none = none_some (nanos_of second) same
  where
    none_some : (n : ℤ) → None ≡ Some n → ⊥
    none_some n e = cc
is_end true second (Some at) same none = is_moment at second (some_is (civil_nanos at) (nanos_of second) same) none.1
  where
    some_is : (a b : ℤ) → Some a ≡ Some b → a ≡ b
    some_is a b e = cc

pub text_unmade : (a : Attributes) (texts : Texts) (refused : Refusal)
    → ¬ EndsAtNoMoment a → refused ≡ refusal.Text → ¬ AreTexts a texts
    → IsFirst (IsUnmade a texts) refused
text_unmade a texts refused ends told none =
    second_of_three refusal.Moment refusal.Text refusal.Site (EndsAtNoMoment a) (¬ AreTexts a texts) (3 < a.same_site)
    refused (record { le = tt }) ends (told, none)

pub site_unmade : (a : Attributes) (texts : Texts) (refused : Refusal)
    → ¬ EndsAtNoMoment a → AreTexts a texts → (refused ≡ refusal.Site) × (3 < a.same_site)
    → IsFirst (IsUnmade a texts) refused
site_unmade a texts refused ends are why =
    third_of_three refusal.Moment refusal.Text refusal.Site (EndsAtNoMoment a) (¬ AreTexts a texts) (3 < a.same_site)
    refused ends (λ none. none are) why
