-- A restart keeps of the rows under a host those with a death that is to come, each standing for what it stood for.
use Rattle.std.proofs.Common.{◌≡◌, ℕ, ℤ, Bool, true, false, cond, ◌&&◌, List, [], ◌∷◌, sym, refl, ap, ◌∙◌, subst}
use Rattle.std.proofs.Common.{Option}
use Rattle.std.proofs.Common.{Some, None, Ok, arith}
use Rattle.std.specs.Prelude.{not, is_some, IfSome}
use Rattle.std.specs.List.{filter, AllByRecursion}
use Rattle.std.specs.Str.{bytes_eq}
use Rattle.std.proofs.lemmas.Bool.{cond-true, cond-false, both_ways}
use Rattle.jiff.proofs.SpanFacts.{signed_arith}
use Rattle.percent_encoding.specs.Percent.{percent_decode}
use Rattle.cookie_text.specs.Printing.{escaped}
use Rattle.cookie_text.specs.ReadingBack.{Pairwise}
use Rattle.cookie_text.specs.Record.{Seen}
use Rattle.store_parts.specs.DomainMatch.{Domain, Covers, text_or_empty}
use Rattle.store_parts.specs.Expiry.{is_dead}
use Rattle.cookie_store.specs.Placing.{is_saved, saved}
use Rattle.cookie_store.specs.Rows.{Row, is_live, live}
use Rattle.cookie_store.specs.SavedRows.{IsReread, IsWholeDeath}
use Rattle.cookie_text.specs.Again.{IsReadPair, PairsReadAgain}
use Rattle.cookie_client.specs.Keeping.{Keeps, HasReadPair, HaveReadPairs}
use Rattle.cookie_run.specs.Site.{Held, Site, live_at, is_lasting, lasting_at, restarted}
use Rattle.cookie_run.proofs.Exchange.{SiteAgrees}
use Rattle.cookie_run.proofs.Kepts.{Kept, found_in, pass, found_filter, apart_filter, all_filter}
use Rattle.cookie_client.proofs.CountedRows.{Counts, is_own, rows_of}
use Rattle.cookie_run.proofs.OwnRows.{IsRowOf, IsGoodKept, IsOther, IsWholeSecond, Agrees}
use Rattle.cookie_run.proofs.OwnRows.{walk}
use Rattle.cookie_run.proofs.OwnRows.{own_is}
use Rattle.cookie_run.proofs.OwnRows.{first_and}
use Rattle.cookie_run.proofs.ReadBack.{escaped_pair}
use Rattle.cookie_run.proofs.Received.{alive}
use Rattle.cookie_run.proofs.Walking.{MatchesHeld}

-- ---- a death that is a whole second stays

pub whole_same : (o w : Option ℤ) → IfSome o IsWholeSecond → IsWholeDeath o w → w ≡ o
whole_same None None h g = refl
whole_same None (Some w) h g = absurd g
whole_same (Some m) None h g = absurd g
whole_same (Some m) (Some w) h g =
    let least = g.greatest h.0 (omega (arith, signed_arith, h.1)) in
    let same : w ≡ m = omega (arith, signed_arith, h.1, g.below, least) in
    ap Some same

-- ---- a row that is read back

pub reread_row : (again : PairsReadAgain) (host : List ℕ) (k : Kept) (r loaded : Row) → IsGoodKept k → IsRowOf host k r
    → IsReread r loaded → IsRowOf host k loaded
reread_row again host k r loaded good h g =
    let own : IsReadPair r.raw.cookie.name r.raw.cookie.value =
    subst (λ n. IsReadPair n r.raw.cookie.value) (sym h.name)
    (subst (λ v. IsReadPair (escaped k.name) v) (sym h.value)
    (escaped_pair k.name k.value good.named good.name_bytes)) in
    let back = (again r.raw.cookie (Ok g.seen) own g.reads).pair in
    record {
      domain = g.domain ∙ h.domain;
      path = g.path ∙ h.path;
      name = ap (λ (s : Seen). s.cookie.name) g.raw ∙ (back.0 ∙ h.name);
      value = ap (λ (s : Seen). s.cookie.value) g.raw ∙ (back.1 ∙ h.value);
      death = whole_same r.death loaded.death (subst (λ o. IfSome o IsWholeSecond) (sym h.death) h.whole) g.death
          ∙ h.death;
      whole = h.whole;
    }

-- a row's name stays
same_name : (again : PairsReadAgain) (r loaded : Row) → HasReadPair r → IsReread r loaded
    → loaded.raw.cookie.name ≡ r.raw.cookie.name
same_name again r loaded own g = ap (λ (s : Seen). s.cookie.name) g.raw
    ∙ (again r.raw.cookie (Ok g.seen) own g.reads).pair.0

-- ---- the rows

abbrev pub lasts : ℤ → Kept → Bool
lasts now k = is_lasting now k.death

-- these rows stand for what lasts of this, and no other one is given to the host
abbrev StandFor : Counts → List ℕ → ℤ → List Kept → List Row → Type 0
StandFor counts host now ks rows =
    Pairwise (IsRowOf host) (filter (lasts now) ks) (rows_of counts host rows)
    × AllByRecursion (IsOther counts host) rows

-- so do those that are kept of the rows
abbrev KeptAs : Counts → List ℕ → ℤ → List Kept → List Row → Type 0
KeptAs counts host now ks rows =
    HaveReadPairs rows → AllByRecursion (IsOther counts host) rows → (read : List Row)
    → Pairwise IsReread (saved now rows) read
    → StandFor counts host now ks (live now read)

kept_none : (counts : Counts) (host : List ℕ) (now : ℤ) → KeptAs counts host now [] []
kept_none counts host now pairs others [] p = (tt, tt)
kept_none counts host now pairs others (x ∷ xs) p = absurd p

own_kept : (counts : Counts) (host : List ℕ) (now : ℤ) (d : Kept) (x : Row) (ds : List Kept) (xs : List Row)
    → IsRowOf host d x
    → is_own counts host x ≡ true → lasts now d ≡ true → StandFor counts host now ds (live now xs)
    → StandFor counts host now (d ∷ ds) (live now (x ∷ xs))
own_kept counts host now d x ds xs own mine lasting tail =
    let death : is_lasting now x.death ≡ true = ap (is_lasting now) own.death ∙ lasting in
    let lives : is_live now x ≡ true = first_and (is_live now x) (is_some x.death) death in
    let row : rows_of counts host (live now (x ∷ xs)) ≡ x ∷ rows_of counts host (live now xs) =
    ap (λ b. rows_of counts host (cond b (x ∷ live now xs) (live now xs))) lives ∙ cond-true _ _ _ mine in
    let front : filter (lasts now) (d ∷ ds) ≡ d ∷ filter (lasts now) ds = cond-true _ _ _ lasting in (
      subst (λ rows. Pairwise (IsRowOf host) (filter (lasts now) (d ∷ ds)) rows) (sym row)
          (subst (λ ks. Pairwise (IsRowOf host) ks (x ∷ rows_of counts host (live now xs))) (sym front) (own, tail.0)),
      subst (λ b. AllByRecursion (IsOther counts host) (cond b (x ∷ live now xs) (live now xs))) (sym lives)
          ((λ other. absurd (both_ways _ other mine)), tail.1),
    )

own_step : (counts : Counts) (again : PairsReadAgain) (host : List ℕ) (now : ℤ) (d : Kept) (r : Row) (ds : List Kept)
    (rs : List Row)
    → is_own counts host r ≡ true → IsGoodKept d → IsRowOf host d r → KeptAs counts host now ds rs
    → KeptAs counts host now (d ∷ ds) (r ∷ rs)
own_step counts again host now d r ds rs own good h rest pairs others read p = by (is_saved now r) refl read p
  where
    by : (b : Bool) → is_saved now r ≡ b → (read : List Row)
        → Pairwise IsReread (cond b (r ∷ saved now rs) (saved now rs)) read
        → StandFor counts host now (d ∷ ds) (live now read)
    by true e [] p = absurd p
    by true e (x ∷ xs) p =
        let row = reread_row again host d r x good h p.0 in
        let mine : is_own counts host x ≡ true = own_is counts host d x row good ∙ (sym (own_is counts host d r h good)
        ∙ own) in
        own_kept counts host now d x ds xs row mine (ap (is_lasting now) (sym h.death) ∙ e)
        (rest pairs.1 others.1 xs p.1)
    by false e read p =
        let tail = rest pairs.1 others.1 read p in
        let gone : filter (lasts now) (d ∷ ds) ≡ filter (lasts now) ds =
        cond-false _ _ _ (ap (is_lasting now) (sym h.death) ∙ e) in
        (subst (λ ks. Pairwise (IsRowOf host) ks (rows_of counts host (live now read))) (sym gone) tail.0, tail.1)

other_kept : (counts : Counts) (host : List ℕ) (now : ℤ) (r x : Row) (ds : List Kept) (xs : List Row)
    → is_own counts host r ≡ false → IsOther counts host r → x.domain ≡ r.domain
    → x.raw.cookie.name ≡ r.raw.cookie.name → StandFor counts host now ds (live now xs)
    → StandFor counts host now ds (live now (x ∷ xs))
other_kept counts host now r x ds xs other foreign domain name tail = by (is_live now x)
  where
    away : is_own counts host x ≡ false
    away = (λ i. counts (percent_decode (name i)) && bytes_eq (text_or_empty (domain i)) host) ∙ other

    alien : IsOther counts host x
    alien away_too counted =
        subst (λ (d : Domain). ¬ (Covers d host)) (sym domain)
        (foreign other (ap (λ n. counts (percent_decode n)) (sym name) ∙ counted))

    by : (b : Bool) → StandFor counts host now ds (cond b (x ∷ live now xs) (live now xs))
    by true = (
      subst (λ rows. Pairwise (IsRowOf host) (filter (lasts now) ds) rows) (sym (cond-false _ _ _ away)) tail.0,
      (alien, tail.1),
    )
    by false = tail

other_step : (counts : Counts) (again : PairsReadAgain) (host : List ℕ) (now : ℤ) (r : Row) (ds : List Kept)
    (rs : List Row) → is_own counts host r ≡ false → KeptAs counts host now ds rs
    → KeptAs counts host now ds (r ∷ rs)
other_step counts again host now r ds rs other rest pairs others read p = by (is_saved now r) read p
  where
    by : (b : Bool) (read : List Row) → Pairwise IsReread (cond b (r ∷ saved now rs) (saved now rs)) read
        → StandFor counts host now ds (live now read)
    by true [] p = absurd p
    by true (x ∷ xs) p = other_kept counts host now r x ds xs other others.0 p.0.domain
        (same_name again r x pairs.0 p.0) (rest pairs.1 others.1 xs p.1)
    by false read p = rest pairs.1 others.1 read p

pub kept_agrees : (counts : Counts) (again : PairsReadAgain) (host : List ℕ) (now : ℤ)
    (rows new : List Row) (ks : List Kept) → HaveReadPairs rows → Agrees counts host rows ks → Keeps rows now now new
    → Agrees counts host new (filter (lasts now) ks)
kept_agrees counts again host now rows new ks pairs a keeps =
    let read = walk counts host (KeptAs counts host now) (kept_none counts host now)
    (λ d r ds rs own h good rest. own_step counts again host now d r ds rs own good h rest)
    (λ r ds rs other rest. other_step counts again host now r ds rs other rest)
    rows ks a.good a.own pairs a.others keeps.read keeps.reread in
    let kept = subst (StandFor counts host now ks) (sym keeps.lives) read in
    record {
      good = all_filter IsGoodKept (lasts now) ks a.good;
      own = kept.0;
      apart = apart_filter (lasts now) ks a.apart;
      others = kept.1;
    }

-- ---- the site

lasting_kept : Option Kept → Option Kept
lasting_kept None = None
lasting_kept (Some k) = cond (is_some k.death) (Some k) None

lasting_held : Option Held → Option Held
lasting_held None = None
lasting_held (Some k) = cond (is_some k.death) (Some k) None

alive_lasting : (now : ℤ) (o : Option Kept) → alive now (pass (lasts now) o) ≡ lasting_kept (alive now o)
unfolding lasting_kept
alive_lasting now None = refl
alive_lasting now (Some k) = both (is_dead now k.death) (is_some k.death) refl refl
  where
    both : (d s : Bool) → is_dead now k.death ≡ d → is_some k.death ≡ s
        → alive now (cond (not d && s) (Some k) None) ≡ lasting_kept (cond d None (Some k))
    both true s e f = refl
    both false true e f = cond-false _ _ _ e ∙ sym (cond-true _ _ _ f)
    both false false e f = sym (cond-false _ _ _ f)

live_lasting : (now : ℤ) (o : Option Held) → live_at now (lasting_at now o) ≡ lasting_held (live_at now o)
unfolding lasting_held
live_lasting now None = refl
live_lasting now (Some k) = both (is_dead now k.death) (is_some k.death) refl refl
  where
    both : (d s : Bool) → is_dead now k.death ≡ d → is_some k.death ≡ s
        → live_at now (cond (not d && s) (Some k) None) ≡ lasting_held (cond d None (Some k))
    both true s e f = refl
    both false true e f = cond-false _ _ _ e ∙ sym (cond-true _ _ _ f)
    both false false e f = sym (cond-false _ _ _ f)

matches_gone : (key q : List ℕ) (b : Bool) (k : Kept) (h : Held) → MatchesHeld key q (Some k) (Some h)
    → MatchesHeld key q (cond b (Some k) None) (cond b (Some h) None)
matches_gone key q true k h m = m
matches_gone key q false k h m = tt

matches_lasting : (key q : List ℕ) (o : Option Kept) (h : Option Held) → MatchesHeld key q o h
    → MatchesHeld key q (lasting_kept o) (lasting_held h)
unfolding lasting_kept lasting_held
matches_lasting key q None None m = tt
matches_lasting key q None (Some h) m = absurd m
matches_lasting key q (Some k) None m = absurd m
matches_lasting key q (Some k) (Some h) m =
    subst (λ (d : Option ℤ). MatchesHeld key q (cond (is_some k.death) (Some k) None) (cond (is_some d) (Some h) None))
    m.1 (matches_gone key q (is_some k.death) k h m)

pub restarts : (counts : Counts) (again : PairsReadAgain) (key host : List ℕ) (now : ℤ)
    (rows new : List Row) (site : Site) → HaveReadPairs rows → SiteAgrees counts key host rows now site
    → Keeps rows now now new → SiteAgrees counts key host new now (restarted site now)
restarts counts again key host now rows new site pairs a keeps = record {
  cookies = filter (lasts now) a.cookies;
  agrees = kept_agrees counts again host now rows new a.cookies pairs a.agrees keeps;
  each = λ q c.
      let kept : alive now (found_in (filter (lasts now) a.cookies) q) ≡ lasting_kept
      (alive now (found_in a.cookies q)) =
      ap (alive now) (found_filter (lasts now) a.cookies q a.agrees.apart) ∙ alive_lasting now (found_in a.cookies q) in
      subst (λ o. MatchesHeld key q o (live_at now (lasting_at now (site q)))) (sym kept)
      (subst (λ o. MatchesHeld key q (lasting_kept (alive now (found_in a.cookies q))) o)
      (sym (live_lasting now (site q)))
      (matches_lasting key q (alive now (found_in a.cookies q)) (live_at now (site q)) (a.each q c)));
}
