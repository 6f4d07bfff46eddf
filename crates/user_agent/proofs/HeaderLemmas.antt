-- The rows that a header shows behind rules, and that it has no control character where that rule is on.
use Rattle.std.proofs.Common.{◌≡◌, ◌∙◌, ◌++◌, ◌⊎◌, ℕ, ℤ, List, [], ◌∷◌, Bool, true, false, IsTrue, ap, cond, inl, inr}
use Rattle.std.proofs.Common.{map, refl, subst, sym}
use Rattle.std.specs.Prelude.{◌↔◌, ◌||◌, filter, not}
use Rattle.std.specs.List.{AllByRecursion, list_any}
use Rattle.std.proofs.lemmas.Bool.{cases_Bool, cond-false, cond-true, or_parts}
use Rattle.publicsuffix.specs.Rules.{Rule}
use Rattle.url.specs.Parts.{Parts}
use Rattle.cookie_store.specs.Given.{pair_of}
use Rattle.cookie_store.specs.Rows.{Row}
use Rattle.cookie_client.specs.Header.{IsHeader, header_of, pair_text}
use Rattle.cookie_client.proofs.ComingBack.{filter_all}
use Rattle.user_agent.specs.Controls.{HeadersAreFree, IsFree, StartedHeadersAreFree}
use Rattle.user_agent.specs.CrossSite.{IsHeaderFor}
use Rattle.user_agent.specs.Headers.{IsHeaderBehind, OtherHeadersAreTheClients, free_rows, has_control, is_free}
use Rattle.user_agent.specs.Headers.{left_if, shown}
use Rattle.user_agent.specs.Refusals.{is_control}
use Rattle.user_agent.specs.SecureWins.{winners, wins}
use Rattle.user_agent.specs.declared.rules.Rules.{Rules}
use Rattle.user_agent.specs.declared.sites.Initiator.{Initiator}
use Rattle.user_agent.proofs.SessionLemmas.{free_join}

-- ---- what holds of all rows holds of those that are shown

pub all_winners : (on : Bool) (P : Row → Type 0) (rows : List Row) → AllByRecursion P rows
    → AllByRecursion P (left_if on winners rows)
all_winners true P rows all = filter_all P (wins rows) rows all
all_winners false P rows all = all

all_free : (on : Bool) (P : Row → Type 0) (rows : List Row) → AllByRecursion P rows
    → AllByRecursion P (left_if on free_rows rows)
all_free true P rows all = filter_all P is_free rows all
all_free false P rows all = all

pub all_shown : (P : Row → Type 0) (rules : Rules) (given : List Row) → AllByRecursion P given
    → AllByRecursion P (shown rules given)
all_shown P rules given all = all_free rules.control P _ (all_winners rules.secure_wins P given all)

-- ---- rows without a control character

abbrev pub IsFreeRow : Row → Type 0
IsFreeRow row = is_free row ≡ true

are_free : (rows : List Row) → AllByRecursion IsFreeRow (free_rows rows)
are_free [] = tt
are_free (row ∷ rows) = by (cases_Bool (is_free row)) (are_free rows)
  where
    by : (is_free row ≡ true) ⊎ (is_free row ≡ false) → AllByRecursion IsFreeRow (free_rows rows)
        → AllByRecursion IsFreeRow (free_rows (row ∷ rows))
    by (inl free) later =
        subst (AllByRecursion IsFreeRow) (sym (cond-true (is_free row) _ _ free)) (free, later)
    by (inr marred) later = subst (AllByRecursion IsFreeRow) (sym (cond-false (is_free row) _ _ marred)) later

-- none of them is left out
pub all_stay : (rows : List Row) → AllByRecursion IsFreeRow rows → free_rows rows ≡ rows
all_stay [] all = refl
all_stay (row ∷ rows) all = cond-true (is_free row) _ _ all.0 ∙ ap (λ left. row ∷ left) (all_stay rows all.1)

pub stay_if : (on : Bool) (rows : List Row) → (on ≡ true → AllByRecursion IsFreeRow rows)
    → left_if on free_rows rows ≡ rows
stay_if true rows all = all_stay rows (all refl)
stay_if false rows all = refl

not_true : (b : Bool) → not b ≡ true → b ≡ false
not_true true e = sym e
not_true false e = refl

pair_free : (row : Row) → IsFreeRow row → IsFree (pair_text (pair_of row))
pair_free row free =
    let both = or_parts (list_any is_control row.raw.cookie.name) (list_any is_control row.raw.cookie.value)
    (not_true (has_control row) free) in
    free_join row.raw.cookie.name (61 ∷ row.raw.cookie.value) both.0 both.1

-- ---- a header has none

printed_free : (rows : List Row) → AllByRecursion IsFreeRow rows → IsFree (header_of (map pair_of rows))
printed_free [] all = refl
printed_free (row ∷ []) all = pair_free row all.0
printed_free (row ∷ next ∷ rows) all =
    free_join (pair_text (pair_of row)) (59 ∷ 32 ∷ header_of (map pair_of (next ∷ rows))) (pair_free row all.0)
    (printed_free (next ∷ rows) all.1)

free_if : (on : Bool) (rows : List Row) → on ≡ true → AllByRecursion IsFreeRow (left_if on free_rows rows)
free_if true rows e = are_free rows
free_if false rows e = absurd (cc)

pub headers_are_free : HeadersAreFree
headers_are_free rules rows url now header on is =
    subst IsFree (sym is.printed) (printed_free _ (free_if rules.control _ on))

pub started_headers_are_free : StartedHeadersAreFree
started_headers_are_free rules list rows url initiator now header on (inl is) =
    headers_are_free rules _ url now header on is.1
started_headers_are_free rules list rows url initiator now header on (inr is) =
    headers_are_free rules rows url now header on is.1

-- ---- a client's headers

all_left : (on : Bool) (left : List Row → List Row) (rows : List Row) → on ≡ false → left_if on left rows ≡ rows
all_left true left rows e = absurd (cc)
all_left false left rows e = refl

all_are_shown : (rules : Rules) (rows : List Row) → rules.secure_wins ≡ false → rules.control ≡ false
    → shown rules rows ≡ rows
all_are_shown rules rows wins control =
    all_left rules.control free_rows _ control ∙ all_left rules.secure_wins winners rows wins

pub other_headers_are_the_clients : OtherHeadersAreTheClients
other_headers_are_the_clients rules rows url now header wins control = (
  λ (is : IsHeaderBehind rules rows url now header). record {
    valid = is.valid;
    given = is.are_given.0;
    are_given = is.are_given.1;
    ordered = is.given;
    longest = is.are_given.2;
    printed = is.printed ∙ ap (λ rs. header_of (map pair_of rs)) (all_are_shown rules is.given wins control);
  },
  λ (is : IsHeader rows url now header). record {
    valid = is.valid;
    given = is.ordered;
    are_given = (is.given, is.are_given, is.longest);
    printed = is.printed ∙ ap (λ rs. header_of (map pair_of rs)) (sym (all_are_shown rules is.ordered wins control));
  },
)
