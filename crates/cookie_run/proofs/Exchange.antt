-- One act, and all acts: the rows under a host go on to stand for what is live of its site.
use Rattle.std.proofs.Common.{Bool, ◌≡◌, ℕ, ℤ, ◌≤ℤ◌, pos, true, false, cond, List, [], ◌∷◌, sym, refl, ap, ◌∙◌, subst}
use Rattle.std.proofs.Common.{⊎_elim, Option, Some, None, arith}
use Rattle.std.specs.Prelude.{map, option_map, IfSome, ⊤}
use Rattle.std.specs.List.{AllByRecursion}
use Rattle.std.specs.Str.{bytes_eq, IsUtf8}
use Rattle.std.specs.FinMap as finmap
use Rattle.std.proofs.lemmas.Bool.{cases_Bool, cond-true}
use Rattle.std.proofs.lemmas.Int.{ints}
use Rattle.jiff.proofs.SpanFacts.{signed_arith}
use Rattle.url.specs.Parts.{Parts}
use Rattle.cookie_text.specs.Normal.{IsReadable}
use Rattle.cookie_text.specs.Printing.{encoded}
use Rattle.cookie_text.specs.Record.{Record, Seen}
use Rattle.cookie.specs.declared.delta.DeltaCookie.{DeltaCookie as Change}
use Rattle.cookie.specs.declared.delta.DeltaCookie.TheVariants.{Added, Removed}
use Rattle.cookie.specs.ByName.{Lists}
use Rattle.cookie.specs.Jar.{Jar, cookie_of as cookie_in, delta, under_names}
use Rattle.publicsuffix.specs.Rules.{Rule}
use Rattle.store_parts.specs.DomainMatch.{suffix}
use Rattle.store_parts.specs.DomainText.{read_domain}
use Rattle.store_parts.specs.Expiry.{epoch, is_dead}
use Rattle.cookie_client.specs.Steps.{Arrival, Arrives, Never, Serves, Delivers}
use Rattle.cookie_client.specs.Hosts.{secure_host}
use Rattle.cookie_client.specs.Jar.{Keyed, record_in}
use Rattle.cookie_client.specs.declared.command.Reading.{Reading}
use Rattle.cookie_run.proofs.Records.{found_in as found_record, lacks as lacks_record, AreApart as RecordsApart}
use Rattle.cookie_client.proofs.Sessions.{IsReadableJar, each_of_names, of_change}
use Rattle.cookie_client.proofs.SessionTexts.{ReadingBack}
use Rattle.cookie_run.proofs.Showing.{OnlyOne, records, lines_are, found_records, apart_records}
use Rattle.cookie_run.proofs.Showing.{all_records}
use Rattle.cookie_client.proofs.Texts.{same_text}
use Rattle.cookie_store.specs.Rows.{Row}
use Rattle.cookie_client.specs.Accept.{AcceptsAll}
use Rattle.cookie_text.specs.Again.{PairsReadAgain, TextsGivePairs}
use Rattle.cookie_client.specs.declared.outcome.LineEnd.{LineEnd}
use Rattle.cookie_client.specs.Header.{IsHeader}
use Rattle.cookie_client.specs.declared.command.Command.{Command}
use Rattle.cookie_run.specs.Site.{Site, View, live_at, live_view, left_by_all, after_arrival}
use Rattle.cookie_client.specs.Keeping.{HaveReadPairs}
use Rattle.cookie_run.proofs.ActMoments.{end_moment}
use Rattle.cookie_run.proofs.Kepts.{Kept, found_in}
use Rattle.cookie_client.proofs.CountedRows.{Counts}
use Rattle.cookie_run.proofs.OwnRows.{Agrees}
use Rattle.cookie_run.proofs.Received.{alive, Writes}
use Rattle.cookie_client.proofs.Lines.{IsClosed}
use Rattle.cookie_run.proofs.Lines.{IsTime, kept_of, own_line}
use Rattle.cookie_run.proofs.GivenRows.{header_last}
use Rattle.cookie_run.proofs.Walking.{MatchesHeld, brings, IsFitChange, AllFit, sent_at, Walks, opened_walks}
use Rattle.cookie_run.proofs.Walking.{matches_later}
use Rattle.cookie_run.proofs.Commands.{Gets, Told, CommandsIn, EndsLate, all_go}

-- what public laws promise
pub record Laws (key : List ℕ) : Type 0 where
  pub back : ReadingBack
  pub only : OnlyOne key
  pub utf8 : (c : Record) → IsClosed c → IsUtf8 (encoded c)
  pub again : PairsReadAgain
  pub given : TextsGivePairs

-- ---- THE LINES OF A SESSION

abbrev over_at : ℤ → Option Record → Option Kept → Option Kept
over_at d None o = o
over_at d (Some c) o = alive d (Some (kept_of d c))

moved : (d : ℤ) (c : Record) (cs : List Record) (q : List ℕ) (x : Option Kept) → lacks_record cs c.name
    → over_at d (found_record cs q) (cond (bytes_eq q c.name) (alive d (Some (kept_of d c))) x) ≡ over_at d
    (found_record (c ∷ cs) q) x
moved d c cs q x none =
    ⊎_elim
    (λ (e : bytes_eq q c.name ≡ true). rw (e, same_text q c.name e, none) refl)
    (λ (e : bytes_eq q c.name ≡ false). rw e refl)
    (cases_Bool (bytes_eq q c.name))

pub record WritesAll (counts : Counts) (host : List ℕ) (now : ℤ) (cs : List Record) (ks : List Kept)
    (new : List Row) : Type 0 where
  pub cookies : List Kept
  pub agrees : Agrees counts host new cookies
  pub each :
      (q : List ℕ) → counts q ≡ true
      → alive now (found_in cookies q) ≡ over_at now (found_record cs q) (alive now (found_in ks q))

own_lines : (counts : Counts) (key : List ℕ) (laws : Laws key) (list : List Rule) (host : List ℕ) (url : Parts)
    (now : ℤ)
    (cs : List Record) (rows : List Row) (ks : List Kept) (ends : List LineEnd) (new : List Row)
    → secure_host url ≡ Some host → IsTime now → AllByRecursion IsClosed cs → RecordsApart cs
    → Agrees counts host rows ks
    → AcceptsAll list rows url now (map encoded cs) ends new → WritesAll counts host now cs ks new
own_lines counts key laws list host url now [] rows ks ends new secure time closed apart a t =
    record { cookies = ks; agrees = subst (λ rs. Agrees counts host rs ks) (sym t.1) a; each = λ q c. refl }
own_lines counts key laws list host url now (c ∷ cs) rows ks [] new secure time closed apart a t = absurd t
own_lines counts key laws list host url now (c ∷ cs) rows ks (e ∷ ends) new secure time closed apart a t =
    let first : Writes counts host now (kept_of now c) ks t.0 = own_line counts laws.back laws.utf8 list host url now c
    rows ks e t.0
    secure time closed.0 a t.1 in
    let rest : WritesAll counts host now cs first.cookies new = own_lines counts key laws list host url now cs t.0
    first.cookies ends
    new secure time closed.1 apart.1 first.agrees t.2 in
    record {
      cookies = rest.cookies;
      agrees = rest.agrees;
      each = λ q counted. rest.each q counted ∙ (ap (over_at now (found_record cs q)) (first.each q counted)
          ∙ moved now c cs q (alive now (found_in ks q)) apart.0);
    }

-- ---- what stands for a site

pub record SiteAgrees (counts : Counts) (key host : List ℕ) (rows : List Row) (now : ℤ) (site : Site) : Type 0 where
  pub cookies : List Kept
  pub agrees : Agrees counts host rows cookies
  pub each : (q : List ℕ) → counts q ≡ true → MatchesHeld key q (alive now (found_in cookies q)) (live_at now (site q))

pub agrees_later : (counts : Counts) (key host : List ℕ) (rows : List Row) (now later : ℤ) (site : Site) → now ≤ℤ later
    → SiteAgrees counts key host rows now site → SiteAgrees counts key host rows later site
agrees_later counts key host rows now later site after a = record {
  cookies = a.cookies;
  agrees = a.agrees;
  each = λ q c. matches_later key q now later (found_in a.cookies q) (site q) after (a.each q c);
}

-- ---- ONE EXCHANGE

closed_change : (jar : Jar) (q : List ℕ) (change : Change) (s : Seen) → cookie_in change ≡ s → IsFitChange change
    → IsReadable (cookie_in change).cookie → IsClosed s.cookie
closed_change jar q (Added c) s is fit readable = subst (λ (x : Seen). IsClosed x.cookie) is
    (record { good = fit.good; is_sent = fit.is_sent; readable = readable })
closed_change jar q (Removed c) s is fit readable = subst (λ (x : Seen). IsClosed x.cookie) is
    (record { good = fit.0.good; is_sent = fit.0.is_sent; readable = readable })

delta_closed : (jar : Jar) (cookies : List Seen) → AllFit jar.changes → IsReadableJar jar
    → Lists (under_names cookies) (delta jar) → AllByRecursion IsClosed (records cookies)
delta_closed jar cookies fit readable lists =
    all_records IsClosed cookies (each_of_names (λ s. IsClosed s.cookie) cookies lists.apart (λ q s is.
    let change = of_change (finmap.get jar.changes q) s (sym (lists.each q) ∙ is) in
    closed_change jar q change.0 s change.2 (fit q change.0 change.1) (readable q change.0 change.1)))

removal_dead : (d : ℤ) (c : Record) → pos 0 ≤ℤ d → c.max_age ≡ Some (pos 0) → alive d (Some (kept_of d c)) ≡ None
removal_dead d c after e = ends c.max_age e
  where
    dead : is_dead d (Some epoch) ≡ true
    dead = grind (arith, ints)

    ends : (age : Option ℤ) → age ≡ Some (pos 0) → alive d (Some (kept_of d (record c { max_age = age }))) ≡ None
    ends age is = ap (λ o. alive d (Some (kept_of d (record c { max_age = o })))) is ∙ cond-true _ _ _ dead

if_change : (o : Option Change) → ((change : Change) → o ≡ Some change → IsFitChange change) → IfSome o IsFitChange
if_change None h = tt
if_change (Some c) h = h c refl

over_sent : (d : ℤ) (change : Option Change) (o : Option Kept) → pos 0 ≤ℤ d → IfSome change IsFitChange
    → over_at d (record_in (option_map cookie_in change)) (alive d o) ≡ sent_at d change o
over_sent d None o after fit = refl
over_sent d (Some (Added s)) o after fit = refl
over_sent d (Some (Removed s)) o after fit = removal_dead d s.cookie after fit.1

delivered : (counts : Counts) (key : List ℕ) (laws : Laws key) (list : List Rule) (host : List ℕ) (rows : List Row)
    (url : Parts)
    (now at : ℤ) (session : Keyed) (view : View) (left : Site) (ks : List Kept) (new : List Row)
    → secure_host url ≡ Some host → IsTime at
    → Agrees counts host rows ks → Walks counts key now at (found_in ks) session view left
    → Delivers list rows url session.jar
    (Arrives at) new → SiteAgrees counts key host new at left
delivered counts key laws list host rows url now at session view left ks new secure time a w d =
    let all = own_lines counts key laws list host url at (records d.0) rows ks d.2.0 new secure time
    (delta_closed session.jar d.0 w.fit w.readable d.1) (apart_records d.0 d.1.apart) a
    (subst (λ ls. AcceptsAll list rows url at ls d.2.0 new) (lines_are d.0) d.2.1) in
    record {
      cookies = all.cookies;
      agrees = all.agrees;
      each = λ q c.
          let is : alive at (found_in all.cookies q) ≡ sent_at at (finmap.get session.jar.changes q) (found_in ks q) =
          all.each q c ∙ (ap (λ o. over_at at o (alive at (found_in ks q))) (found_records d.0 q
          ∙ ap record_in (d.1.each q))
          ∙ over_sent at (finmap.get session.jar.changes q) (found_in ks q) time.after
          (if_change (finmap.get session.jar.changes q) (w.fit q))) in
          subst (λ o. MatchesHeld key q o (live_at at (left q))) (sym is) (w.leaves q c);
    }

-- a host that is its own IDNA form, not empty, and begins with no dot
abbrev pub IsReadBack : List ℕ → Type 0
IsReadBack host = read_domain host ≡ Some (suffix host)

abbrev pub IsArrival : ℤ → Arrival → Type 0
IsArrival now (Arrives at) = IsTime at × (now ≤ℤ at)
IsArrival now Never = ⊤

pub walked : {b : Bool} (counts : Counts) (Read : Gets) → Told counts Read
    → (key : List ℕ) (laws : Laws key) (host : List ℕ) (rows : List Row) (url : Parts) (now d : ℤ) (site : Site)
    (cs : List Command) (told : List Reading) (session : Keyed) (header : List ℕ)
    (a : SiteAgrees counts key host rows now site) → secure_host url ≡ Some host → IsReadBack host → now ≤ℤ d
    → EndsLate now → HaveReadPairs rows → IsHeader rows url now header → Serves b key header now cs told session
    → (noted : List Command) × (after : View) × CommandsIn Read (live_view site now) cs told noted after
    × Walks counts key now d (found_in a.cookies) session after (left_by_all d site noted)
walked {b} counts Read tell key laws host rows url now d site cs told session header a secure reads after late pairs is
    serves =
    let brought = brings counts key now a.cookies header serves.0 a.agrees.apart
    (header_last b counts host url now rows a.cookies header secure reads pairs a.agrees is) serves.1 in
    all_go counts Read tell key now d (found_in a.cookies) serves.0 session (live_view site now) site cs told laws.only
    after late (opened_walks counts key now d a.cookies header serves.0 site after brought serves.1 a.each) serves.2

-- an exchange that is opened at the moment
abbrev pub ExchangeIn : Gets → Site → ℤ → List Command → Arrival → List Reading → Site → Type 0
ExchangeIn Read site now commands arrival told new =
    (noted : List Command) × (after : View) × CommandsIn Read (live_view site now) commands told noted after
    × (new ≡ after_arrival arrival site noted)

pub exchanged : {b : Bool} (counts : Counts) (Read : Gets) → Told counts Read
    → (key : List ℕ) (laws : Laws key) (list : List Rule) (host : List ℕ) (rows new : List Row) (url : Parts)
    (now : ℤ) (site : Site) (cs : List Command) (arrival : Arrival) (told : List Reading) (header : List ℕ)
    (session : Keyed) → secure_host url ≡ Some host → IsReadBack host → EndsLate now → IsArrival now arrival
    → SiteAgrees counts key host rows now site → HaveReadPairs rows → IsHeader rows url now header
    → Serves b key header now cs told session → Delivers list rows url session.jar arrival new
    → (after : Site) × ExchangeIn Read site now cs arrival told after
    × SiteAgrees counts key host new (end_moment now arrival)
    after
exchanged counts Read tell key laws list host rows new url now site cs Never told header session secure reads late time
    a pairs is serves
    d =
    let w = walked counts Read tell key laws host rows url now now site cs told session header a secure reads (same now)
    late pairs is serves in
    (site, (w.0, w.1, w.2, refl), subst (λ rs. SiteAgrees counts key host rs now site) (sym d) a)
  where
    same : (n : ℤ) → n ≤ℤ n
    same n = omega (arith, signed_arith)
exchanged counts Read tell key laws list host rows new url now site cs (Arrives at) told header session secure reads
    late time a
    pairs is serves d =
    let w = walked counts Read tell key laws host rows url now at site cs told session header a secure reads time.1 late
    pairs is serves in (
      left_by_all at site w.0,
      (w.0, w.1, w.2, refl),
      delivered counts key laws list host rows url now at session w.1
          (left_by_all at site w.0) a.cookies new secure time.0 a.agrees w.3 d,
    )
