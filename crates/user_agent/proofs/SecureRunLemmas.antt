-- A row that is Secure was set by an answer from a secure URL, and so was what a request is sent under its name.
use Rattle.std.proofs.Common.{◌≡◌, ◌⊎◌, ℕ, ℤ, List, [], ◌∷◌, ◌||◌, Bool, true, false, not, cond, Option, Some}
use Rattle.std.proofs.Common.{None, Ok, sym, refl, ap, ◌∙◌, subst, inl, inr, IsTrue, codes, map, take}
use Rattle.std.specs.Net.Addr.{ipv4_octets, ipv6_segments}
use Rattle.std.specs.Prelude.{filter, IsSomeAnd}
use Rattle.std.specs.List.{AllByRecursion, list_any}
use Rattle.std.specs.Str.{IsUtf8, bytes_eq}
use Rattle.std.proofs.lemmas.Bool.{both_ways}
use Rattle.std.proofs.lemmas.List.Elements.{All-from_recursion, recursion_from_All}
use Rattle.std.proofs.lemmas.List.Sorted.{All-permutation}
use Rattle.std.proofs.lemmas.Slice.Eq.{bytes_eq-Decides}
use Rattle.publicsuffix.specs.Rules.{Rule}
use Rattle.url.specs.Parts.{Parts, nonempty_host}
use Rattle.url.specs.declared.host.Host.{Host}
use Rattle.url.specs.declared.host.Host.TheVariants.{Domain, Ipv4, Ipv6}
use Rattle.cookie_text.specs.Again.{IsReadPair}
use Rattle.cookie_text.specs.Printing.{is_set}
use Rattle.cookie_text.specs.Reading.{ReadsPlain}
use Rattle.cookie_text.specs.ReadingBack.{Pairwise}
use Rattle.cookie_text.specs.Record.{Seen, unsliced}
use Rattle.cookie_text.proofs.PairsAgain.{pair_of as texts_give_pairs, pair_reads_again}
use Rattle.store_parts.specs.DomainMatch.{text_or_empty}
use Rattle.store_parts.specs.Schemes.{IsSecure, IsThisHost}
use Rattle.cookie_store.specs.Given.{ArePicked, pair_of}
use Rattle.cookie_store.specs.Insertion.{alone}
use Rattle.cookie_store.specs.Making.{IsMade}
use Rattle.cookie_store.specs.Placing.{is_saved, saved}
use Rattle.cookie_store.specs.Rows.{Key, Row, expired, is_live, key_of}
use Rattle.cookie_store.specs.SavedRows.{IsReread}
use Rattle.cookie_client.specs.Header.{header_of}
use Rattle.cookie_client.specs.HostPrefix.{IsAgainstHost}
use Rattle.cookie_client.specs.Keeping.{HaveReadPairs, Keeps}
use Rattle.cookie_client.proofs.ComingBack.{filter_all}
use Rattle.user_agent.specs.Agent.{TakesLine, TakesLines}
use Rattle.user_agent.specs.Controls.{IsFree}
use Rattle.user_agent.specs.Headers.{left_if, shown}
use Rattle.user_agent.specs.Refusals.{asks_for_secure, is_control}
use Rattle.user_agent.specs.SecureRuns.{Answers, IsAny, Restarts, SecureNamesAreSetSecurely, Sets, SetsSecurely, Step}
use Rattle.user_agent.specs.SecureRuns.{TakesStep, TakesSteps}
use Rattle.user_agent.specs.SecureWins.{decoded_name, is_secure_of, winners, wins}
use Rattle.user_agent.specs.declared.rules.Outcome.{Outcome}
use Rattle.user_agent.specs.declared.rules.Refusal.TheVariants.{LacksSecure, SecureFromHttp}
use Rattle.user_agent.specs.declared.rules.Rules.{Rules}
use Rattle.user_agent.proofs.ControlLemmas.{free_lines_read, free_lines_stay}
use Rattle.user_agent.proofs.FlagLemmas.{IsUncut, flags_read, line_uncut, may_be_secure}
use Rattle.user_agent.proofs.HeaderLemmas.{IsFreeRow, all_winners, stay_if}
use Rattle.user_agent.proofs.IntegrityLemmas.{set_is}
use Rattle.user_agent.proofs.RowLemmas.{all_accepts}

-- ---- a URL is secure, or it isn't

by_bytes : (xs ys : List ℕ) → (xs ≡ ys) ⊎ (¬ (xs ≡ ys))
by_bytes xs ys = by (bytes_eq xs ys) refl
  where
    by : (b : Bool) → bytes_eq xs ys ≡ b → (xs ≡ ys) ⊎ (¬ (xs ≡ ys))
    by true e = inl ((bytes_eq-Decides xs ys).0 e)
    by false e = inr (λ same. both_ways _ e ((bytes_eq-Decides xs ys).1 same))

this_host : (host : Host (List ℕ)) → IsThisHost host ⊎ (¬ (IsThisHost host))
this_host (Domain domain) = by_bytes domain (codes "localhost")
this_host (Ipv4 address) = by_bytes (take 1 (ipv4_octets address)) (127 ∷ [])
this_host (Ipv6 address) = by_bytes (ipv6_segments address) (0 ∷ 0 ∷ 0 ∷ 0 ∷ 0 ∷ 0 ∷ 0 ∷ 1 ∷ [])

some_host : (host : Option (Host (List ℕ))) → IsSomeAnd host IsThisHost ⊎ (¬ (IsSomeAnd host IsThisHost))
some_host None = inr (λ h. h)
some_host (Some host) = this_host host

secure_or_not : (url : Parts) → IsSecure url ⊎ (¬ (IsSecure url))
secure_or_not url = by (by_bytes url.scheme (codes "https")) (some_host (nonempty_host url))
  where
    by : ((url.scheme ≡ codes "https") ⊎ (¬ (url.scheme ≡ codes "https")))
        → (IsSomeAnd (nonempty_host url) IsThisHost ⊎ (¬ (IsSomeAnd (nonempty_host url) IsThisHost)))
        → IsSecure url ⊎ (¬ (IsSecure url))
    by (inl https) host = inl (inl https)
    by (inr other) (inl this) = inl (inr this)
    by (inr other) (inr none) = inr (λ h. elim h [ inl https ↦ other https | inr this ↦ none this ])

-- what holds of all rows holds of those that a request is given
pub picked_all : (P : Row → Type 0) (Is : Row → Type 0) (rows picked : List Row) → AllByRecursion P rows
    → ArePicked Is rows picked → AllByRecursion P picked
picked_all P Is [] picked h e = subst (AllByRecursion P) (sym e) tt
picked_all P Is (x ∷ xs) picked h (later, are, inl (is, e)) =
    subst (AllByRecursion P) (sym e) (h.0, picked_all P Is xs later h.1 are)
picked_all P Is (x ∷ xs) picked h (later, are, inr (out, e)) =
    subst (AllByRecursion P) (sym e) (picked_all P Is xs later h.1 are)

-- ---- a Secure row was set over a secure URL

-- no control character stands in the name and the value
abbrev IsFreePair : Seen → Type 0
IsFreePair seen = not (list_any is_control seen.cookie.name || list_any is_control seen.cookie.value) ≡ true

-- a row whose name and value are as a text gives them, and without a control character where that rule is on, whose
-- Path and Domain hold no semicolon, and whose value was such under its key where it may be Secure
pub record IsSafe (control : Bool) (Was : Key → List ℕ → Type 0) (row : Row) : Type 0 where
  pub pair : IsReadPair row.raw.cookie.name row.raw.cookie.value
  pub free : control ≡ true → IsFreeRow row
  pub uncut : IsUncut row.raw.cookie
  pub was : may_be_secure row.raw.cookie ≡ true → Was (key_of row) row.raw.cookie.value

module _ (rules : Rules) (from_http : IsTrue rules.secure_from_http) (on : IsTrue rules.secure_wins)
    (Was : Key → List ℕ → Type 0) where
  abbrev pub Q : Row → Type 0
  Q = IsSafe rules.control Was

  q_same : (row other : Row) → other.raw ≡ row.raw → key_of other ≡ key_of row → Q row → Q other
  q_same row other e keyed q = record {
    pair = subst (λ (s : Seen). IsReadPair s.cookie.name s.cookie.value) (sym e) q.pair;
    free = λ control. subst IsFreePair (sym e) (q.free control);
    uncut = subst (λ (s : Seen). IsUncut s.cookie) (sym e) q.uncut;
    was = λ may. subst (λ (k : Key). Was k other.raw.cookie.value) (sym keyed)
        (subst (λ (s : Seen). Was (key_of row) s.cookie.value) (sym e)
        (q.was (subst (λ (s : Seen). may_be_secure s.cookie ≡ true) e may)));
  }

  line_sets : (list : List Rule) (rows new : List Row) (url : Parts) (now : ℤ) (line : List ℕ) (outcome : Outcome)
      → (IsSecure url → (key : Key) (value : List ℕ) → Sets rules url now key value line → Was key value)
      → AllByRecursion Q rows → TakesLine rules list rows url now line outcome new → AllByRecursion Q new
  line_sets list rows new url now line outcome sets h (inl (stopped, is, same)) = subst (AllByRecursion Q) (sym same) h
  line_sets list rows new url now line outcome sets h (inr (free, (handed, is_handed, inl (rule, refused, is, same)))) =
      subst (AllByRecursion Q) (sym same) h
  line_sets list rows new url now line outcome sets h
      (inr (free, (handed, is_handed, inr (let_in, (end, accepts, is))))) =
      all_accepts Q Q (λ row. q_same row (expired row) refl refl) (λ row. q_same row (alone row) refl refl) url now
      (λ row lives q. q) handed made list rows new end h accepts
    where
      line_free : (b : Bool) → list_any is_control line ≡ b → rules.control ≡ true → IsFree line
      line_free true e control = absurd (free (control, e))
      line_free false e control = e

      pair_free : (seen : Seen) → IsUtf8 handed → ReadsPlain handed (Ok seen) → rules.control ≡ true
          → IsFreePair seen
      pair_free seen utf8 reads control =
          let whole = free_lines_stay rules now line handed (line_free _ refl control) is_handed in
          let texts = free_lines_read handed seen whole utf8 reads in
          λ i. not (texts.name i || texts.value i)

      made : (seen : Seen) → ¬ (IsAgainstHost url handed) → IsUtf8 handed → ReadsPlain handed (Ok seen) → (row : Row)
          → IsMade (unsliced seen.cookie) url now row → Q row
      made seen unlike utf8 reads row is_made =
          record {
            pair = subst (λ (s : Seen). IsReadPair s.cookie.name s.cookie.value) (sym is_made.raw)
                (texts_give_pairs handed seen utf8 reads);
            free = λ control. subst IsFreePair (sym is_made.raw) (pair_free seen utf8 reads control);
            uncut = subst (λ (s : Seen). IsUncut s.cookie) (sym is_made.raw) (line_uncut handed seen utf8 reads);
            was = λ may. by (subst (λ (s : Seen). may_be_secure s.cookie ≡ true) is_made.raw may) (secure_or_not url);
          }
        where
          at : (b : Bool) → is_set seen.cookie.secure ≡ b → may_be_secure seen.cookie ≡ true → ¬ (IsSecure url) → ⊥
          at true set may at_http =
              let_in SecureFromHttp from_http (utf8, (seen, reads, (set_is seen.cookie.secure set, at_http)))
          at false unset may at_http =
              let_in LacksSecure on (
                utf8,
                (
                  seen,
                  reads,
                  record {
                    asks = ap (λ b. b || asks_for_secure seen.cookie) (sym unset) ∙ may;
                    plain = λ set. both_ways (is_set seen.cookie.secure) unset (ap is_set set);
                    insecure = at_http;
                  },
                ),
              )

          by : may_be_secure seen.cookie ≡ true → (IsSecure url ⊎ (¬ (IsSecure url)))
              → Was (key_of row) row.raw.cookie.value
          by may (inl at_https) =
              sets at_https (key_of row) row.raw.cookie.value (record {
                handed = handed;
                is_handed = is_handed;
                seen = seen;
                reads = reads;
                made = row;
                is_made = is_made;
                keyed = refl;
                valued = refl;
              })
          by may (inr at_http) = absurd (at (is_set seen.cookie.secure) refl may at_http)

  lines_set : (list : List Rule) (rows new : List Row) (url : Parts) (now : ℤ) (lines : List (List ℕ))
      (outcomes : List Outcome)
      → (IsSecure url → (key : Key) (value : List ℕ) → IsAny (Sets rules url now key value) lines → Was key value)
      → AllByRecursion Q rows → TakesLines rules list rows url now lines outcomes new → AllByRecursion Q new
  lines_set list rows new url now [] outcomes sets h takes = subst (AllByRecursion Q) (sym takes.1) h
  lines_set list rows new url now (line ∷ lines) [] sets h takes = absurd takes
  lines_set list rows new url now (line ∷ lines) (outcome ∷ outcomes) sets h (mid, one, rest) =
      lines_set list mid new url now lines outcomes (λ s key value any. sets s key value (inr any))
      (line_sets list rows mid url now line outcome (λ s key value here. sets s key value (inl here)) h one) rest

  -- ---- a restart

  reread_safe : (row read : Row) → Q row → IsReread row read → Q read
  reread_safe row read q h =
      let again = pair_reads_again row.raw.cookie (Ok h.seen) q.pair h.reads in
      let flags = flags_read row.raw.cookie h.seen q.pair q.uncut h.reads in
      let name : row.raw.cookie.name ≡ h.seen.cookie.name = sym again.pair.0 in
      let value : row.raw.cookie.value ≡ h.seen.cookie.value = sym again.pair.1 in
      let raw_name : read.raw.cookie.name ≡ row.raw.cookie.name =
      ap (λ (s : Seen). s.cookie.name) h.raw ∙ sym name in
      let keyed : key_of row ≡ key_of read =
      λ i. record {
        domain = text_or_empty (sym h.domain i);
        path = (sym h.path i).text;
        name = sym raw_name i;
      } in
      record {
        pair = subst (λ (s : Seen). IsReadPair s.cookie.name s.cookie.value) (sym h.raw)
            (subst (λ v. IsReadPair h.seen.cookie.name v) value
            (subst (λ n. IsReadPair n row.raw.cookie.value) name q.pair));
        free = λ control. subst IsFreePair (sym h.raw)
            ((λ i. not (list_any is_control (sym name i) || list_any is_control (sym value i))) ∙ q.free control);
        uncut = subst (λ (s : Seen). IsUncut s.cookie) (sym h.raw) flags.1;
        was = λ may. subst (λ (k : Key). Was k read.raw.cookie.value) keyed
            (subst (λ (s : Seen). Was (key_of row) s.cookie.value) (sym h.raw)
            (subst (λ v. Was (key_of row) v) value
            (q.was (flags.0 (subst (λ (s : Seen). may_be_secure s.cookie ≡ true) h.raw may)))));
      }

  rereads_safe : (rows read : List Row) → AllByRecursion Q rows → Pairwise IsReread rows read → AllByRecursion Q read
  rereads_safe [] [] h p = tt
  rereads_safe [] (x ∷ xs) h p = absurd p
  rereads_safe (r ∷ rs) [] h p = absurd p
  rereads_safe (r ∷ rs) (x ∷ xs) h p = (reread_safe r x h.0 p.0, rereads_safe rs xs h.1 p.1)

  restart_keeps : (rows new : List Row) (saving loading : ℤ) → AllByRecursion Q rows → Keeps rows saving loading new
      → AllByRecursion Q new
  restart_keeps rows new saving loading h keeps =
      subst (AllByRecursion Q) (sym keeps.lives)
      (filter_all Q (is_live loading) keeps.read
      (rereads_safe (saved saving rows) keeps.read (filter_all Q (is_saved saving) rows h) keeps.reread))

  -- ---- all steps

  step_sets : (list : List Rule) (rows new : List Row) (step : Step)
      → ((key : Key) (value : List ℕ) → SetsSecurely rules key value step → Was key value) → AllByRecursion Q rows
      → TakesStep rules list rows step new → AllByRecursion Q new
  step_sets list rows new (Answers answer) sets h (outcomes, takes) =
      lines_set list rows new answer.url answer.at answer.lines outcomes
      (λ s key value any. sets key value (s, any)) h takes
  step_sets list rows new (Restarts saving loading) sets h keeps = restart_keeps rows new saving loading h keeps

  pub steps_set : (list : List Rule) (rows new : List Row) (steps : List Step)
      → ((key : Key) (value : List ℕ) → IsAny (SetsSecurely rules key value) steps → Was key value)
      → AllByRecursion Q rows → TakesSteps rules list rows steps new → AllByRecursion Q new
  steps_set list rows new [] sets h takes = subst (AllByRecursion Q) (sym takes) h
  steps_set list rows new (step ∷ steps) sets h (mid, one, rest) =
      steps_set list mid new steps (λ key value any. sets key value (inr any))
      (step_sets list rows mid step (λ key value here. sets key value (inl here)) h one) rest

  -- ---- those that win

  -- where a Secure one of these has the row's name, its value is such under its key
  abbrev W : List Row → Row → Type 0
  W given row =
      IsTrue (list_any (is_secure_of (decoded_name row)) given) → Was (key_of row) row.raw.cookie.value

  -- a row that wins over a Secure one of its name is Secure
  won : (given : List Row) (row : Row) → wins given row ≡ true → Q row → W given row
  won given row win q there = by (is_set row.raw.cookie.secure) refl
    where
      by : (b : Bool) → is_set row.raw.cookie.secure ≡ b → Was (key_of row) row.raw.cookie.value
      by true e = q.was (ap (λ b. b || asks_for_secure row.raw.cookie) e)
      by false e =
          absurd (both_ways (wins given row) (λ i. e i || not (there i)) win)

  all_won : (given rows : List Row) → AllByRecursion Q rows
      → AllByRecursion (W given) (filter (wins given) rows)
  all_won given [] h = tt
  all_won given (row ∷ rows) h = by (wins given row) refl (all_won given rows h.1)
    where
      by : (b : Bool) → wins given row ≡ b → AllByRecursion (W given) (filter (wins given) rows)
          → AllByRecursion (W given) (cond b (row ∷ filter (wins given) rows) (filter (wins given) rows))
      by true e later = (won given row e h.0, later)
      by false e later = later

-- one of the steps set the value under the key
abbrev pub WasSet : Rules → List Step → Key → List ℕ → Type 0
WasSet rules steps key value = IsAny (SetsSecurely rules key value) steps

-- after all steps of a user agent that begins without a row
pub safe_rows : (rules : Rules) (list : List Rule) (steps : List Step) (rows : List Row)
    (from_http : IsTrue rules.secure_from_http) (on : IsTrue rules.secure_wins) → TakesSteps rules list [] steps rows
    → AllByRecursion (Q rules from_http on (WasSet rules steps)) rows
safe_rows rules list steps rows from_http on takes =
    steps_set rules from_http on (WasSet rules steps) list [] rows steps (λ key value any. any) tt takes

read_pairs_of : (control : Bool) (Was : Key → List ℕ → Type 0) (rows : List Row)
    → AllByRecursion (IsSafe control Was) rows → HaveReadPairs rows
read_pairs_of control Was [] h = tt
read_pairs_of control Was (row ∷ rows) h = (h.0.pair, read_pairs_of control Was rows h.1)

free_of : (control : Bool) (Was : Key → List ℕ → Type 0) (rows : List Row) → control ≡ true
    → AllByRecursion (IsSafe control Was) rows → AllByRecursion IsFreeRow rows
free_of control Was [] on h = tt
free_of control Was (row ∷ rows) on h = (h.0.free on, free_of control Was rows on h.1)

-- where none of them has a control character if that rule is on, a header shows all that win
winners_shown : (rules : Rules) (given : List Row) → rules.secure_wins ≡ true
    → (rules.control ≡ true → AllByRecursion IsFreeRow given) → shown rules given ≡ winners given
winners_shown rules given on free =
    stay_if rules.control _ (λ control. all_winners rules.secure_wins IsFreeRow given (free control))
    ∙ ap (λ b. left_if b winners given) on

-- so their names and values are as texts give them
pub have_read_pairs : (rules : Rules) (list : List Rule) (steps : List Step) (rows : List Row)
    → IsTrue rules.secure_from_http → IsTrue rules.secure_wins → TakesSteps rules list [] steps rows
    → HaveReadPairs rows
have_read_pairs rules list steps rows from_http on takes =
    read_pairs_of rules.control (WasSet rules steps) rows (safe_rows rules list steps rows from_http on takes)

pub secure_names_are_set_securely : SecureNamesAreSetSecurely
secure_names_are_set_securely rules list steps rows from_http on takes to now header h =
    let Was : Key → List ℕ → Type 0 = WasSet rules steps in
    let all = safe_rows rules list steps rows from_http on takes in
    let picked = picked_all (Q rules from_http on Was) _ rows h.are_given.0 all h.are_given.1 in
    let longest = recursion_from_All (Q rules from_http on Was) h.given
    (All-permutation (Q rules from_http on Was) h.are_given.0 h.given h.are_given.2.permutation
    (All-from_recursion (Q rules from_http on Was) h.are_given.0 picked)) in
    let same = winners_shown rules h.given on (λ control. free_of rules.control Was h.given control longest) in (
      h.given,
      h.are_given,
      h.printed ∙ ap (λ rs. header_of (map pair_of rs)) same,
      all_won rules from_http on Was h.given h.given longest,
    )
