-- Under a name that its site sets Strict each time, a session reads nothing of a cross-site request.
use Rattle.std.proofs.Common.{◌≡◌, ◌∙◌, ◌++◌, ℕ, ℤ, List, [], ◌∷◌, Bool, true, false, Option, Some, None, Ok, ap, codes}
use Rattle.std.proofs.Common.{cond, inl, inr, not, option_map, refl, subst, sym}
use Rattle.std.specs.Prelude.{IfSome, IsSomeAnd}
use Rattle.std.specs.FinMap as finmap
use Rattle.std.specs.List.{AllByRecursion}
use Rattle.std.specs.Option.{option_or}
use Rattle.std.specs.Str.{IsUtf8}
use Rattle.std.proofs.lemmas.Bool.{cond-true, false≢true}
use Rattle.std.proofs.lemmas.Slice.Eq.{bytes_eq-Decides}
use Rattle.percent_encoding.specs.Percent.{percent_decode}
use Rattle.publicsuffix.specs.Rules.{Rule}
use Rattle.url.specs.Parts.{Parts}
use Rattle.cookie.specs.Jar.{overlaid, view}
use Rattle.cookie.specs.Prefix.{IsHost, host_text}
use Rattle.cookie_text.specs.Again.{IsReadPair}
use Rattle.cookie_text.specs.Reading.{ReadsPlain}
use Rattle.cookie_text.specs.ReadingBack.{Pairwise}
use Rattle.cookie_text.specs.Record.{Record, Seen, unsliced}
use Rattle.cookie_text.specs.declared.draft.SameSite.{SameSite}
use Rattle.cookie_text.specs.declared.draft.SameSite.TheVariants.{Strict}
use Rattle.cookie_text.proofs.PairsAgain.{pair_of as texts_give_pairs, pair_reads_again}
use Rattle.store_parts.specs.DomainMatch.{Covers, Domain, host_only, text_or_empty}
use Rattle.store_parts.specs.DomainText.{attribute_domain}
use Rattle.store_parts.specs.Expiry.{is_dead}
use Rattle.store_parts.specs.Schemes.{host_of}
use Rattle.cookie_store.specs.Insertion.{alone}
use Rattle.cookie_store.specs.Making.{IsDomainFor, IsMade}
use Rattle.cookie_store.specs.Placing.{is_saved, saved}
use Rattle.cookie_store.specs.Rows.{Row, domain_text, expired, is_live}
use Rattle.cookie_store.specs.SavedRows.{IsReread}
use Rattle.cookie_client.specs.HostPrefix.{IsAgainstHost}
use Rattle.cookie_client.specs.Hosts.{secure_host}
use Rattle.cookie_client.specs.Jar.{last_in, record_in, value_in}
use Rattle.cookie_client.specs.Keeping.{HasReadPair, HaveReadPairs, Keeps}
use Rattle.cookie_client.proofs.ComingBack.{filter_all}
use Rattle.cookie_client.proofs.LetIn.{free_conforms}
use Rattle.cookie_client.proofs.Lines.{https_of, some_domain}
use Rattle.cookie_client.proofs.Sessions.{none_at}
use Rattle.cookie_client.proofs.SessionTexts.{last_named}
use Rattle.cookie_client.proofs.Texts.{some_is_not_none}
use Rattle.user_agent.specs.CrossAnswers.{TakesLineFrom, TakesLinesFrom}
use Rattle.user_agent.specs.CrossSite.{IsCarried, is_held_back}
use Rattle.user_agent.specs.SecureRuns.{IsAny}
use Rattle.user_agent.specs.SecureWins.{decoded_name}
use Rattle.user_agent.specs.Sites.{is_safe_navigation}
use Rattle.user_agent.specs.StrictRuns.{Comes, IsSetStrictly, Reloads, SetsStrictly, StartedStep}
use Rattle.user_agent.specs.StrictRuns.{StrictNamesAreReadAtHome, TakesAllStarted, TakesStarted}
use Rattle.user_agent.specs.declared.cross_answer.OutcomeFor.{OutcomeFor}
use Rattle.user_agent.specs.declared.rules.Rules.{Rules}
use Rattle.user_agent.proofs.CrossLemmas.{carried_cookies_are_read}
use Rattle.user_agent.proofs.FlagLemmas.{IsUncut, flags_read, line_uncut}
use Rattle.user_agent.proofs.RowLemmas.{all_accepts}
use Rattle.user_agent.proofs.SiteReadLemmas.{strict_read}

-- ---- where a cookie that conforms to `__Host-` is kept

of_host : (o : Option (List ℕ)) (d : Domain) → option_map host_only o ≡ Some d
    → (host : List ℕ) × (o ≡ Some host) × (d ≡ host_only host)
of_host None d e = absurd (some_is_not_none d (sym e))
of_host (Some host) d e = (host, refl, sym (some_domain (host_only host) d e))

made_at : (s : Seen) (url : Parts) (now : ℤ) (made : Row) → IsHost s → IsMade (unsliced s.cookie) url now made
    → (host : List ℕ) × (host_of url ≡ Some host) × (made.domain ≡ host_only host)
made_at s url now made conforms is =
    of_host (host_of url) made.domain
    (subst (λ o. IsSomeAnd (attribute_domain o) (λ asked. IsDomainFor asked url made.domain)) conforms.domain is.domain)

secure_at : (url : Parts) (host : List ℕ) → url.scheme ≡ codes "https" → host_of url ≡ Some host
    → secure_host url ≡ Some host
secure_at url host https at =
    cond-true _ (host_of url) None ((bytes_eq-Decides url.scheme (codes "https")).1 https) ∙ at

-- ---- a row of the name is of one host alone, and Strict where that is the site's

-- if it lives
pub record IsAtHome (host stored : List ℕ) (Lives : Type 0) (row : Row) : Type 0 where
  pub pair : HasReadPair row
  pub uncut : IsUncut row.raw.cookie
  pub one_host : decoded_name row ≡ stored → (text : List ℕ) × (row.domain ≡ host_only text)
  pub strict : decoded_name row ≡ stored → domain_text row ≡ host → Lives → row.raw.cookie.same_site ≡ Some Strict

module _ (host name : List ℕ) where
  abbrev stored : List ℕ
  stored = host_text ++ name

  abbrev P : Row → Type 0
  P row = IsAtHome host stored (Unit {0}) row

  abbrev M : ℤ → Row → Type 0
  M now row = IsAtHome host stored (is_dead now row.death ≡ false) row

  ends : (row : Row) → P row → P (expired row)
  ends row p = record { pair = p.pair; uncut = p.uncut; one_host = p.one_host; strict = p.strict }

  lone : (now : ℤ) (row : Row) → M now row → M now (alone row)
  lone now row m = record {
    pair = m.pair;
    uncut = m.uncut;
    one_host = λ named. (domain_text row, refl);
    strict = m.strict;
  }

  alive : (now : ℤ) (row : Row) → is_dead now row.death ≡ false → M now row → P row
  alive now row lives m = record {
    pair = m.pair;
    uncut = m.uncut;
    one_host = m.one_host;
    strict = λ named at _. m.strict named at lives;
  }

  module _ (rules : Rules) (across : Bool) (list : List Rule) (url : Parts) (now : ℤ) where
    line_home : (rows new : List Row) (line : List ℕ) (outcome : OutcomeFor)
        → (secure_host url ≡ Some host → SetsStrictly rules now stored line) → AllByRecursion P rows
        → TakesLineFrom rules across list rows url now line outcome new → AllByRecursion P new
    line_home rows new line outcome set h (inl (stopped, ended, same)) = subst (AllByRecursion P) (sym same) h
    line_home rows new line outcome set h (inr (free, (handed, is_handed, inl (cause, kept, ended, same)))) =
        subst (AllByRecursion P) (sym same) h
    line_home rows new line outcome set h
        (inr (free, (handed, is_handed, inr (may, (judged, inl (rule, against, ended, same), told))))) =
        subst (AllByRecursion P) (sym same) h
    line_home rows new line outcome set h
        (inr (free, (handed, is_handed, inr (may, (judged, inr (let_in, (end, accepts, ended)), told))))) =
        all_accepts P (M now) ends (lone now) url now (alive now) handed made list rows new end h accepts
      where
        made : (seen : Seen) → ¬ (IsAgainstHost url handed) → IsUtf8 handed → ReadsPlain handed (Ok seen) → (row : Row)
            → IsMade (unsliced seen.cookie) url now row → M now row
        made seen unlike utf8 reads row is = record {
          pair = subst (λ (s : Seen). IsReadPair s.cookie.name s.cookie.value) (sym is.raw)
              (texts_give_pairs handed seen utf8 reads);
          uncut = subst (λ (s : Seen). IsUncut s.cookie) (sym is.raw) (line_uncut handed seen utf8 reads);
          one_host = λ named. let at = place named in (at.0, at.2);
          strict = by;
        }
          where
            seen_named : decoded_name row ≡ stored → percent_decode seen.cookie.name ≡ stored
            seen_named named = subst (λ (s : Seen). percent_decode s.cookie.name ≡ stored) is.raw named

            conforms : decoded_name row ≡ stored → IsHost seen × (url.scheme ≡ codes "https")
            conforms named = free_conforms url handed seen unlike utf8 reads (name, seen_named named)

            place : decoded_name row ≡ stored
                → (text : List ℕ) × (host_of url ≡ Some text) × (row.domain ≡ host_only text)
            place named = made_at seen url now row (conforms named).0 is

            by : decoded_name row ≡ stored → domain_text row ≡ host → is_dead now row.death ≡ false
                → row.raw.cookie.same_site ≡ Some Strict
            by named at_host lives =
                let at = place named in
                let same : at.0 ≡ host = sym (ap text_or_empty at.2) ∙ at_host in
                let secure = secure_at url host (conforms named).1 (at.1 ∙ ap Some same) in
                subst (λ (s : Seen). s.cookie.same_site ≡ Some Strict) (sym is.raw)
                (set secure handed seen is_handed utf8 reads (seen_named named)
                (subst (λ d. is_dead now d ≡ false) is.ends lives))

    lines_home : (rows new : List Row) (lines : List (List ℕ)) (outcomes : List OutcomeFor)
        → (secure_host url ≡ Some host → AllByRecursion (SetsStrictly rules now stored) lines) → AllByRecursion P rows
        → TakesLinesFrom rules across list rows url now lines outcomes new → AllByRecursion P new
    lines_home rows new [] outcomes set h takes = subst (AllByRecursion P) (sym takes.1) h
    lines_home rows new (line ∷ lines) [] set h takes = absurd takes
    lines_home rows new (line ∷ lines) (outcome ∷ outcomes) set h (mid, one, rest) =
        lines_home mid new lines outcomes (λ secure. (set secure).1)
        (line_home rows mid line outcome (λ secure. (set secure).0) h one) rest

  -- ---- a restart

  reread_home : (row read : Row) → P row → IsReread row read → P read
  reread_home row read p h =
      let again = pair_reads_again row.raw.cookie (Ok h.seen) p.pair h.reads in
      let name : row.raw.cookie.name ≡ h.seen.cookie.name = sym again.pair.0 in
      let value : row.raw.cookie.value ≡ h.seen.cookie.value = sym again.pair.1 in
      let back : decoded_name read ≡ decoded_name row =
      ap (λ (s : Seen). percent_decode s.cookie.name) h.raw ∙ ap percent_decode (sym name) in
      let flags = flags_read row.raw.cookie h.seen p.pair p.uncut h.reads in
      record {
        pair = subst (λ (s : Seen). IsReadPair s.cookie.name s.cookie.value) (sym h.raw)
            (subst (λ v. IsReadPair h.seen.cookie.name v) value
            (subst (λ n. IsReadPair n row.raw.cookie.value) name p.pair));
        uncut = subst (λ (s : Seen). IsUncut s.cookie) (sym h.raw) flags.1;
        one_host = λ named. let at = p.one_host (sym back ∙ named) in (at.0, h.domain ∙ at.1);
        strict = λ named at lives. subst (λ (s : Seen). s.cookie.same_site ≡ Some Strict) (sym h.raw)
            (strict_read row.raw.cookie
            (p.strict (sym back ∙ named) (sym (ap text_or_empty h.domain) ∙ at) lives) h.seen p.pair p.uncut h.reads);
      }

  rereads_home : (rows read : List Row) → AllByRecursion P rows → Pairwise IsReread rows read → AllByRecursion P read
  rereads_home [] [] h p = tt
  rereads_home [] (x ∷ xs) h p = absurd p
  rereads_home (r ∷ rs) [] h p = absurd p
  rereads_home (r ∷ rs) (x ∷ xs) h p = (reread_home r x h.0 p.0, rereads_home rs xs h.1 p.1)

  restart_home : (rows new : List Row) (saving loading : ℤ) → AllByRecursion P rows → Keeps rows saving loading new
      → AllByRecursion P new
  restart_home rows new saving loading h keeps =
      subst (AllByRecursion P) (sym keeps.lives)
      (filter_all P (is_live loading) keeps.read
      (rereads_home (saved saving rows) keeps.read (filter_all P (is_saved saving) rows h) keeps.reread))

  -- ---- all steps

  step_home : (rules : Rules) (list : List Rule) (rows new : List Row) (step : StartedStep)
      → IsSetStrictly rules host stored step → AllByRecursion P rows → TakesStarted rules list rows step new
      → AllByRecursion P new
  step_home rules list rows new (Comes answer initiator) set h (outcomes, inl is) =
      lines_home rules true list answer.url answer.at rows new answer.lines outcomes set h is.1
  step_home rules list rows new (Comes answer initiator) set h (outcomes, inr isnt) =
      lines_home rules false list answer.url answer.at rows new answer.lines outcomes set h isnt.1
  step_home rules list rows new (Reloads saving loading) set h keeps = restart_home rows new saving loading h keeps

  pub steps_home : (rules : Rules) (list : List Rule) (rows new : List Row) (steps : List StartedStep)
      → AllByRecursion (IsSetStrictly rules host stored) steps → AllByRecursion P rows
      → TakesAllStarted rules list rows steps new → AllByRecursion P new
  steps_home rules list rows new [] set h takes = subst (AllByRecursion P) (sym takes) h
  steps_home rules list rows new (step ∷ steps) set h (mid, one, rest) =
      steps_home rules list mid new steps set.1 (step_home rules list rows mid step set.0 h one) rest

  pub home_pairs : (rows : List Row) → AllByRecursion P rows → HaveReadPairs rows
  home_pairs [] h = tt
  home_pairs (row ∷ rows) h = (h.0.pair, home_pairs rows h.1)

  -- ---- what is read

  one_of : (row : Row) (rows : List Row) → AllByRecursion P rows → IsAny (λ other. row ≡ other) rows → P row
  one_of row [] h any = absurd any
  one_of row (other ∷ rows) h (inl same) = subst P (sym same) h.0
  one_of row (other ∷ rows) h (inr any) = one_of row rows h.1 any

  not_strict : (by_default is_let : Bool) (o : Option SameSite) → o ≡ Some Strict
      → ¬ (not (is_held_back by_default is_let o) ≡ true)
  not_strict by_default is_let o e sent =
      false≢true (subst (λ s. not (is_held_back by_default is_let s) ≡ true) e sent)

  covered_at : (o : Option (List ℕ)) (d : Domain) (text : List ℕ) → o ≡ Some host → d ≡ host_only text
      → IsSomeAnd o (Covers d) → host ≡ text
  covered_at o d text at is covers =
      subst (λ x. Covers x host) is (subst (λ x. IsSomeAnd x (Covers d)) at covers)

  module _ (rows : List Row) (home : AllByRecursion P rows) (by_default is_let : Bool) (to : Parts) (now : ℤ)
      (secure : secure_host to ≡ Some host) where
    none_carried : (cookie : Record) → cookie.name ≡ stored → ¬ (IsCarried rows by_default is_let to now cookie)
    none_carried cookie named carried =
        let p = one_of carried.row rows home carried.held in
        let called : decoded_name carried.row ≡ stored = sym carried.named ∙ named in
        let alone_at = p.one_host called in
        let same = covered_at (host_of to) carried.row.domain alone_at.0 (https_of host to secure).1 alone_at.1
        carried.given.goes.domain in
        not_strict by_default is_let carried.row.raw.cookie.same_site
        (p.strict called (ap text_or_empty alone_at.1 ∙ sym same) tt) carried.sent

    none_read : (cookies : List Record) (value : List ℕ)
        → AllByRecursion (IsCarried rows by_default is_let to now) cookies
        → ¬ (value_in (last_in cookies stored) ≡ Some value)
    none_read cookies value carried =
        by (last_in cookies stored) (last_all cookies carried) (last_named cookies stored)
      where
        last_all : (cs : List Record) → AllByRecursion (IsCarried rows by_default is_let to now) cs
            → IfSome (last_in cs stored) (IsCarried rows by_default is_let to now)
        last_all [] h = tt
        last_all (c ∷ cs) h = either (last_in cs stored) _ (last_all cs h.1)
          where
            either : (o : Option Record) (b : Bool) → IfSome o (IsCarried rows by_default is_let to now)
                → IfSome (option_or o (cond b (Some c) None))
                (IsCarried rows by_default is_let to now)
            either (Some d) b g = g
            either None true g = h.0
            either None false g = tt

        by : (o : Option Record) → IfSome o (IsCarried rows by_default is_let to now)
            → IfSome o (λ c. c.name ≡ stored) → ¬ (value_in o ≡ Some value)
        by None h named e = some_is_not_none value (sym e)
        by (Some c) h named e = none_carried c named h

pub strict_names_are_read_at_home : StrictNamesAreReadAtHome
strict_names_are_read_at_home rules list steps rows takes host name set to initiator now header secure is b key
    session opened value reads crosses =
    let home = steps_home host name rules list [] rows steps set tt takes in
    let carried = carried_cookies_are_read rules list rows to initiator now header b opened.cookies
    (home_pairs host name rows home) crosses is opened.read in
    let text = host_text ++ name in
    let changes : finmap.get session.jar.changes text ≡ None =
    ap (λ m. finmap.get m text) opened.holds.changes ∙ none_at text in
    let seen : record_in (view session.jar text) ≡ last_in opened.cookies text =
    ap (λ o. record_in (overlaid o (finmap.get session.jar.originals text))) changes ∙ opened.holds.originals text in
    none_read host name rows home rules.lax_by_default (is_safe_navigation initiator) to now secure opened.cookies value
    carried (sym (reads ∙ ap value_in seen))
