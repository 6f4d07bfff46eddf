-- The header of a cross-site request, and what a session reads of it.
use Rattle.std.proofs.Common.{◌≡◌, ◌⊎◌, ◌∙◌, ℕ, ℤ, List, [], ◌∷◌, Bool, true, false, None, Option, Some, ap, cond}
use Rattle.std.proofs.Common.{inl, inr, IsTrue, map, refl, subst, sym}
use Rattle.std.specs.Prelude.{IsSomeAnd, filter, not}
use Rattle.std.specs.List.{AllByRecursion}
use Rattle.std.proofs.lemmas.Bool.{cases_Bool, cond-false, cond-true, false≢true}
use Rattle.std.proofs.lemmas.List.Elements.{All-from_recursion, recursion_from_All}
use Rattle.std.proofs.lemmas.List.Sorted.{All-permutation}
use Rattle.cookie_client.specs.Header.{header_of}
use Rattle.cookie_client.specs.Keeping.{HasReadPair, HaveReadPairs}
use Rattle.cookie_client.specs.Reading.{AreCookiesBy}
use Rattle.cookie_client.proofs.HeaderBack.{header_back}
use Rattle.cookie_client.proofs.HeaderCookies.{cookies_by}
use Rattle.cookie_client.proofs.ReadCode.{cookies_are}
use Rattle.cookie_store.specs.Given.{AreGiven, ArePicked, IsGiven, pair_of}
use Rattle.cookie_store.specs.Longest.{AreGivenLongest, AreLongestFirst}
use Rattle.cookie_store.specs.Rows.{Row}
use Rattle.cookie_text.specs.Record.{Record}
use Rattle.cookie_text.specs.declared.draft.SameSite.{SameSite}
use Rattle.cookie_text.specs.declared.draft.SameSite.TheVariants.{Strict, Lax, None as Unrestricted}
use Rattle.percent_encoding.specs.Percent.{percent_decode}
use Rattle.publicsuffix.specs.Rules.{Rule}
use Rattle.url.specs.Parts.{Parts}
use Rattle.user_agent.specs.CrossSite.{CarriedCookiesAreRead, IsCarried, IsHeaderFor, NoLaxCrosses, NoStrictCrosses}
use Rattle.user_agent.specs.CrossSite.{OwnRequestsStay, is_confined, is_held_back, is_sent, is_strict, sent_across}
use Rattle.user_agent.specs.CrossSite.{sent_rows, without}
use Rattle.user_agent.specs.Headers.{IsHeaderBehind, shown}
use Rattle.user_agent.specs.SecureRuns.{IsAny}
use Rattle.user_agent.specs.SecureWins.{decoded_name}
use Rattle.user_agent.specs.Sites.{AreSameSite, IsCrossSite, is_safe_navigation}
use Rattle.user_agent.specs.declared.rules.Rules.{Rules}
use Rattle.user_agent.specs.declared.sites.Initiator.{Initiator}
use Rattle.user_agent.proofs.HeaderLemmas.{all_shown}
use Rattle.user_agent.proofs.SecureReadLemmas.{each_of, of_rows, read_pairs, some_left}

-- ---- rows that a cross-site request never carries

-- what is left by both tests is what is left by the narrower one
filter_within : (narrow wide : Row → Bool) → ((row : Row) → wide row ≡ false → narrow row ≡ false) → (rows : List Row)
    → filter narrow (filter wide rows) ≡ filter narrow rows
filter_within narrow wide within [] = refl
filter_within narrow wide within (row ∷ rows) =
    by (cases_Bool (wide row)) (filter_within narrow wide within rows)
  where
    by : (wide row ≡ true) ⊎ (wide row ≡ false) → filter narrow (filter wide rows) ≡ filter narrow rows
        → filter narrow (cond (wide row) (row ∷ filter wide rows) (filter wide rows)) ≡ filter narrow (row ∷ rows)
    by (inl passes) so_far =
        ap (filter narrow) (cond-true (wide row) _ _ passes)
        ∙ ap (λ left. cond (narrow row) (row ∷ left) left) so_far
    by (inr fails) so_far =
        ap (filter narrow) (cond-false (wide row) _ _ fails)
        ∙ (so_far ∙ sym (cond-false (narrow row) _ _ (within row fails)))

strict_held : (by_default is_let : Bool) (same_site : Option SameSite) → not (is_strict same_site) ≡ false
    → not (is_held_back by_default is_let same_site) ≡ false
strict_held by_default is_let (Some Strict) e = refl
strict_held by_default is_let (Some Lax) e = absurd (false≢true (sym e))
strict_held by_default is_let (Some Unrestricted) e = absurd (false≢true (sym e))
strict_held by_default is_let None e = absurd (false≢true (sym e))

confined_held : (by_default : Bool) (same_site : Option SameSite) → not (is_confined same_site) ≡ false
    → not (is_held_back by_default false same_site) ≡ false
confined_held by_default (Some Strict) e = refl
confined_held by_default (Some Lax) e = refl
confined_held by_default (Some Unrestricted) e = absurd (false≢true (sym e))
confined_held by_default None e = absurd (false≢true (sym e))

across : (rules : Rules) (list : List Rule) (rows : List Row) (url : Parts) (initiator : Initiator) (now : ℤ)
    (header : List ℕ) → IsCrossSite list url initiator → IsHeaderFor rules list rows url initiator now header
    → IsHeaderBehind rules (sent_across rules.lax_by_default initiator rows) url now header
across rules list rows url initiator now header crosses (inl is) = is.1
across rules list rows url initiator now header crosses (inr isnt) = absurd (isnt.0 crosses)

pub no_strict_crosses : NoStrictCrosses
no_strict_crosses rules list rows url initiator now header crosses is =
    let by_default = rules.lax_by_default in
    let is_let = is_safe_navigation initiator in
    let same : sent_rows by_default is_let (without is_strict rows) ≡ sent_rows by_default is_let rows =
    filter_within (is_sent by_default is_let) (λ row. not (is_strict row.raw.cookie.same_site))
    (λ row e. strict_held by_default is_let row.raw.cookie.same_site e) rows in
    inl (
      crosses,
      subst (λ left. IsHeaderBehind rules left url now header) (sym same)
          (across rules list rows url initiator now header crosses is),
    )

pub no_lax_crosses : NoLaxCrosses
no_lax_crosses rules list rows url initiator now header crosses unsafe is =
    let by_default = rules.lax_by_default in
    let is_let = is_safe_navigation initiator in
    let held : (row : Row) → not (is_confined row.raw.cookie.same_site) ≡ false
    → is_sent by_default is_let row ≡ false =
    λ row e. ap (λ b. is_sent by_default b row) unsafe ∙ confined_held by_default row.raw.cookie.same_site e in
    let same : sent_rows by_default is_let (without is_confined rows) ≡ sent_rows by_default is_let rows =
    filter_within (is_sent by_default is_let) (λ row. not (is_confined row.raw.cookie.same_site)) held rows in
    inl (
      crosses,
      subst (λ left. IsHeaderBehind rules left url now header) (sym same)
          (across rules list rows url initiator now header crosses is),
    )

pub own_requests_stay : OwnRequestsStay
own_requests_stay rules list rows url initiator now header own (inl is) =
    absurd (subst (λ found. IsSomeAnd found (λ page. ¬ (AreSameSite list page.now url))) own is.0)
own_requests_stay rules list rows url initiator now header own (inr isnt) = isnt.1

-- ---- what a session reads

-- each of the rows that a test leaves is one of them, and passes it
left_of : (test : Row → Bool) (all rows : List Row) → ((row : Row) → IsAny (λ other. row ≡ other) rows
    → IsAny (λ other. row ≡ other) all)
    → AllByRecursion (λ row. IsAny (λ other. row ≡ other) all × (test row ≡ true)) (filter test rows)
left_of test all [] within = tt
left_of test all (row ∷ rows) within =
    by (cases_Bool (test row)) (left_of test all rows (λ other any. within other (inr any)))
  where
    Is : Row → Type 0
    Is row = IsAny (λ other. row ≡ other) all × (test row ≡ true)

    by : (test row ≡ true) ⊎ (test row ≡ false) → AllByRecursion Is (filter test rows)
        → AllByRecursion Is (filter test (row ∷ rows))
    by (inl passes) later =
        subst (AllByRecursion Is) (sym (cond-true (test row) _ _ passes)) ((within row (inl refl), passes), later)
    by (inr fails) later = subst (AllByRecursion Is) (sym (cond-false (test row) _ _ fails)) later

-- what holds of each row holds of those that are picked, and these are picked
picked_each : (Q P : Row → Type 0) (rows picked : List Row) → AllByRecursion P rows → ArePicked Q rows picked
    → AllByRecursion (λ y. Q y × P y) picked
picked_each Q P [] picked all p = subst (AllByRecursion (λ y. Q y × P y)) (sym p) tt
picked_each Q P (y ∷ ys) picked all (later, p, inl is) =
    subst (AllByRecursion (λ z. Q z × P z)) (sym is.1) ((is.0, all.0), picked_each Q P ys later all.1 p)
picked_each Q P (y ∷ ys) picked all (later, p, inr isnt) =
    subst (AllByRecursion (λ z. Q z × P z)) (sym isnt.1) (picked_each Q P ys later all.1 p)

module _ (rows : List Row) (by_default is_let : Bool) (url : Parts) (now : ℤ) where
  abbrev Carried : Record → Type 0
  Carried = IsCarried rows by_default is_let url now

  -- what is known of each row of the header
  abbrev Known : Row → Type 0
  Known row =
      IsGiven row url now
      × ((IsAny (λ other. row ≡ other) rows × (is_sent by_default is_let row ≡ true)) × HasReadPair row)

  known : (read : HaveReadPairs rows) (given : List Row) → AreGiven (sent_rows by_default is_let rows) url now given
      → AllByRecursion Known given
  known read given are =
      let sent = sent_rows by_default is_let rows in
      let left = left_of (is_sent by_default is_let) rows rows (λ row any. any) in
      let both = each_of (λ row. IsAny (λ other. row ≡ other) rows × (is_sent by_default is_let row ≡ true)) HasReadPair
      (λ row. (IsAny (λ other. row ≡ other) rows × (is_sent by_default is_let row ≡ true)) × HasReadPair row)
      (λ row a b. (a, b)) sent left (some_left (is_sent by_default is_let) HasReadPair rows read) in
      picked_each (λ row. IsGiven row url now) _ sent given both are

  in_order : (P : Row → Type 0) (given ordered : List Row) → AreLongestFirst given ordered → AllByRecursion P given
      → AllByRecursion P ordered
  in_order P given ordered first all =
      recursion_from_All P ordered (All-permutation P given ordered first.permutation (All-from_recursion P given all))

  carried : (b : Bool) (shown : List Row) (header : List ℕ) (cookies : List Record) → AllByRecursion Known shown
      → header ≡ header_of (map pair_of shown) → AreCookiesBy b header cookies → AllByRecursion Carried cookies
  carried b shown header cookies all printed of =
      let read = each_of Known Known HasReadPair (λ row a b. a.1.1) shown all all in
      let each = each_of Known Known (λ row. (c : Record) → c.name ≡ decoded_name row
      → c.value ≡ percent_decode row.raw.cookie.value → Carried c)
      (λ row a b c named valued. record {
        row = row;
        held = a.1.0.0;
        given = a.0;
        sent = a.1.0.1;
        named = named;
        valued = valued;
      }) shown all all in
      subst (AllByRecursion Carried)
      (sym (cookies_are b header cookies of ∙ (ap (cookies_by b) printed
      ∙ header_back b (map pair_of shown) (read_pairs shown read))))
      (of_rows Carried b false shown read each)

  behind : (b : Bool) (rules : Rules) (header : List ℕ) (cookies : List Record) → HaveReadPairs rows
      → IsHeaderBehind rules (sent_rows by_default is_let rows) url now header → AreCookiesBy b header cookies
      → AllByRecursion Carried cookies
  behind b rules header cookies read is of =
      let are = is.are_given in
      let all = in_order Known are.0 is.given are.2 (known read are.0 are.1) in
      carried b (shown rules is.given) header cookies (all_shown Known rules is.given all) is.printed of

pub carried_cookies_are_read : CarriedCookiesAreRead
carried_cookies_are_read rules list rows url initiator now header b cookies read crosses is of =
    behind rows rules.lax_by_default (is_safe_navigation initiator) url now b rules header cookies read
    (across rules list rows url initiator now header crosses is) of
