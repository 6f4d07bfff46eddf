-- What the headline says of a site that sets a cookie and then reads it, beside no other host that answers.
use Rattle.std.proofs.Common.{◌≡◌, ℕ, ◌+◌, ◌*◌, ℤ, pos, List, [], ◌∷◌, ◌++◌, refl, ap, sym, subst, ◌∙◌, inl, inr}
use Rattle.std.proofs.Common.{Option, Some, None}
use Rattle.std.specs.Prelude.{codes}
use Rattle.std.proofs.lemmas.Option.{same_Some}
use Rattle.url.specs.Parts.{Parts}
use Rattle.url.specs.declared.host.Host.TheVariants.{Domain}
use Rattle.cookie_text.specs.Record.{Record, bare, unsliced}
use Rattle.store_parts.specs.Schemes.{host_of}
use Rattle.cookie_client.specs.Steps.{Act, Visits, Restarts, Arrival, Arrives, Never}
use Rattle.cookie_run.specs.Headline.{IsSite, IsApartFrom, AnswersApart, AnswersBySessions, ReadsOn, EachReadsOn}
use Rattle.cookie_run.specs.Headline.{SitesReadTheirOwn}
use Rattle.cookie_run.specs.Readings.{all_told, AnswersEach}
use Rattle.cookie_client.specs.Ways as kinds
use Rattle.cookie_run.specs.Site.{Site, View, nothing, live_view, after_arrival, restarted, SetOn, IsReadAt}
use Rattle.cookie_client.specs.Ways.{Refuses}
use Rattle.cookie_client.specs.declared.command.Command.{Command}
use Rattle.cookie_client.specs.declared.command.Command.TheVariants.{Set, Get}
use Rattle.cookie_client.specs.declared.command.Reading.{Reading}
use Rattle.cookie_client.specs.declared.command.Reading.TheVariants.{Value}
use Rattle.cookie_client.specs.declared.outcome.SessionError.{SessionError}
use Rattle.cookie_client.specs.declared.outcome.SessionError.TheVariants.{EmptyName, Year, TooLong, Rng, OutOfMemory}
use Rattle.cookie_client.specs.declared.way.Way.TheVariants.{Plain}
use Rattle.cookie_run.proofs.Example.{shop, list, own_form, no_empty_label}
use Rattle.cookie_client.proofs.Texts.{some_is_not_none}

-- seconds of 1971
abbrev at : ℕ → ℤ
at n = pos ((31_536_000 + n) * 1_000_000_000)

abbrev the_url : Parts
the_url = record {
  scheme = codes "https";
  username = [];
  password = [];
  host = Some (Domain shop);
  port = None;
  path = codes "/";
  query = None;
  fragment = None;
}

-- ---- the visit: `foo !%?=` is set to `bar;;, a`, and read by a later request

abbrev the_name : List ℕ
the_name = codes "foo !%?="

abbrev the_value : List ℕ
the_value = codes "bar;;, a"

abbrev the_cookie : Option ℤ → Record
the_cookie age = record (bare the_name the_value) { max_age = age }

abbrev the_set : Option ℤ → Command
the_set age = Set Plain (unsliced (the_cookie age))

abbrev sets_it : Option ℤ → Arrival → Act
sets_it age arrival = Visits the_url (at 0) (the_set age ∷ []) arrival

abbrev reads_it : ℤ → Act
reads_it later = Visits (record the_url { path = codes "/x/y" }) later (Get Plain the_name ∷ []) Never

abbrev the_acts : Option ℤ → Arrival → ℤ → List Act
the_acts age arrival later = sets_it age arrival ∷ reads_it later ∷ []

-- what the later request finds
abbrev found : Option ℤ → Arrival → ℤ → View
found age arrival later = live_view (after_arrival arrival nothing (the_set age ∷ [])) later

no_refusal : (age : Option ℤ) (error : SessionError) → ¬ (Refuses Plain (the_cookie age) error)
no_refusal age EmptyName e = some_is_not_none EmptyName (sym e)
no_refusal age Year e = some_is_not_none Year (sym e)
no_refusal age TooLong e = some_is_not_none TooLong (sym e)
no_refusal age Rng e = let never = e.0 in cc
no_refusal age OutOfMemory e = e

set_told : (age : Option ℤ) (view new : View) (told : List Reading) (noted : List Command)
    → SetOn view (the_set age) Plain (the_cookie age) told noted new → (told ≡ []) × (noted ≡ the_set age ∷ [])
set_told age view new told noted (inl s) = (s.0, s.2)
set_told age view new told noted (inr s) = absurd (no_refusal age s.0 s.2)

-- the first exchange reads nothing, and leaves its entry where its answer arrives
first_told : (age : Option ℤ) (arrival : Arrival) (told : List Reading) (new : Site)
    → ReadsOn shop nothing (sets_it age arrival) told new
    → (told ≡ []) × (new ≡ after_arrival arrival nothing (the_set age ∷ []))
first_told age arrival told new h =
    let x = h.0 refl in
    let c = x.2 in
    let s = set_told age (live_view nothing (at 0)) c.4 c.0 c.2 c.5 in (
      c.7 ∙ (ap (λ first. first ++ c.1) s.0 ∙ c.6.0),
      x.3 ∙ ap (after_arrival arrival nothing) (c.8 ∙ (ap (λ first. first ++ c.3) s.1
          ∙ ap (λ later. the_set age ∷ later) c.6.1)),
    )

-- the second one reads what its site has then
second_told : (site : Site) (later : ℤ) (value : Option (List ℕ))
    → ((v : Option (List ℕ)) → IsReadAt kinds.Plain (live_view site later the_name) v → v ≡ value)
    → (told : List Reading) (new : Site) → ReadsOn shop site (reads_it later) told new
    → told ≡ Value Plain the_name value ∷ []
second_told site later value reads told new h =
    let c = (h.0 refl).2 in
    let get = c.5.0 in
    let one : c.0 ≡ Value Plain the_name value ∷ [] = get.1 ∙ ap (λ v. Value Plain the_name v ∷ [])
    (reads get.0 get.2) in
    c.7 ∙ (ap (λ first. first ++ c.1) one ∙ ap (λ more. Value Plain the_name value ∷ more) c.6.0)

both_told : (age : Option ℤ) (arrival : Arrival) (later : ℤ) (value : Option (List ℕ))
    → ((v : Option (List ℕ)) → IsReadAt kinds.Plain (found age arrival later the_name) v → v ≡ value)
    → (told : List (List Reading)) (end : Site) → AnswersEach (the_acts age arrival later) told
    → EachReadsOn shop nothing (the_acts age arrival later) told end → all_told told ≡ Value Plain the_name value ∷ []
both_told age arrival later value reads [] end own h = absurd h
both_told age arrival later value reads (first ∷ []) end own h = absurd h.2
both_told age arrival later value reads (first ∷ second ∷ third ∷ more) end own h = absurd own.1.1
both_told age arrival later value reads (first ∷ second ∷ []) end own h =
    let began = first_told age arrival first h.0 h.1 in
    let same : (v : Option (List ℕ)) → IsReadAt kinds.Plain (live_view h.0 later the_name) v
    → v ≡ value = λ v r. reads v
    (subst (λ (site : Site). IsReadAt kinds.Plain (live_view site later the_name) v) began.1 r) in
    let read = second_told h.0 later value same second h.2.0 h.2.1 in
    ap (λ told. told ++ (second ++ [])) began.0 ∙ ap (λ told. told ++ []) read

-- there is no other host
alone : (url : Parts) → host_of url ≡ Some shop → IsApartFrom list shop url
alone url here other is apart = absurd (apart (same_Some _ _ (sym here ∙ is)))

apart_from_none : (arrival : Arrival) (url : Parts) (now : ℤ) (commands : List Command) → host_of url ≡ Some shop
    → AnswersApart list shop (Visits url now commands arrival)
apart_from_none (Arrives later) url now commands here = alone url here
apart_from_none Never url now commands here = tt

by_session : (age : Option ℤ) (arrival : Arrival) → AnswersBySessions shop (sets_it age arrival)
by_session age (Arrives later) = λ here. refl
by_session age Never = tt

a_site : (age : Option ℤ) (arrival : Arrival) (later : ℤ) → IsSite list shop (the_acts age arrival later)
a_site age arrival later = record {
  own_form = own_form;
  no_empty_label = no_empty_label;
  sessions = (by_session age arrival, (tt, tt));
  apart = (apart_from_none arrival the_url (at 0) (the_set age ∷ []) refl, (tt, tt));
}

-- what the headline says of the visit
the_visit : (age : Option ℤ) (arrival : Arrival) (later : ℤ) (value : Option (List ℕ))
    → ((v : Option (List ℕ)) → IsReadAt kinds.Plain (found age arrival later the_name) v → v ≡ value)
    → (readings : List Reading)
    → SitesReadTheirOwn list (the_acts age arrival later) readings → readings ≡ Value Plain the_name value ∷ []
the_visit age arrival later value reads readings h =
    let e = h.sites shop (a_site age arrival later) in
    h.read ∙ both_told age arrival later value reads h.told e.0 h.own e.1

-- delivered, that value is read
delivered : (readings : List Reading) → SitesReadTheirOwn list (the_acts None (Arrives (at 0)) (at 1)) readings
    → readings ≡ Value Plain the_name (Some the_value) ∷ []
delivered = the_visit None (Arrives (at 0)) (at 1) (Some the_value) (λ v read. read refl)

-- lost, none is
lost : (readings : List Reading) → SitesReadTheirOwn list (the_acts None Never (at 1)) readings
    → readings ≡ Value Plain the_name None ∷ []
lost = the_visit None Never (at 1) None (λ v read. read)

-- with a Max-Age of 10 seconds, delivered at 5, it is read at 14 and no longer at 15
still_there : (readings : List Reading)
    → SitesReadTheirOwn list (the_acts (Some (pos 10_000_000_000)) (Arrives (at 5)) (at 14)) readings
    → readings ≡ Value Plain the_name (Some the_value) ∷ []
still_there = the_visit (Some (pos 10_000_000_000)) (Arrives (at 5)) (at 14) (Some the_value) (λ v read. read refl)

gone : (readings : List Reading)
    → SitesReadTheirOwn list (the_acts (Some (pos 10_000_000_000)) (Arrives (at 5)) (at 15)) readings
    → readings ≡ Value Plain the_name None ∷ []
gone = the_visit (Some (pos 10_000_000_000)) (Arrives (at 5)) (at 15) None (λ v read. read)

-- ---- the same with a restart before the later request

abbrev restart_acts : Option ℤ → ℤ → List Act
restart_acts age later = sets_it age (Arrives (at 5)) ∷ Restarts later ∷ reads_it later ∷ []

-- what the later request finds then
abbrev kept : Option ℤ → ℤ → View
kept age later = live_view (restarted (after_arrival (Arrives (at 5)) nothing (the_set age ∷ [])) later) later

three_told : (age : Option ℤ) (later : ℤ) (value : Option (List ℕ))
    → ((v : Option (List ℕ)) → IsReadAt kinds.Plain (kept age later the_name) v → v ≡ value)
    → (told : List (List Reading)) (end : Site) → AnswersEach (restart_acts age later) told
    → EachReadsOn shop nothing (restart_acts age later) told end → all_told told ≡ Value Plain the_name value ∷ []
three_told age later value reads [] end own h = absurd h
three_told age later value reads (first ∷ []) end own h = absurd h.2
three_told age later value reads (first ∷ between ∷ []) end own h = absurd h.2.2
three_told age later value reads (first ∷ between ∷ second ∷ third ∷ more) end own h = absurd own.1.1.1
three_told age later value reads (first ∷ between ∷ second ∷ []) end own h =
    let began = first_told age (Arrives (at 5)) first h.0 h.1 in
    let left : h.2.0 ≡ restarted (after_arrival (Arrives (at 5)) nothing (the_set age ∷ [])) later =
    h.2.1 ∙ ap (λ (site : Site). restarted site later) began.1 in
    let same : (v : Option (List ℕ)) → IsReadAt kinds.Plain (live_view h.2.0 later the_name) v
    → v ≡ value = λ v r. reads v
    (subst (λ (site : Site). IsReadAt kinds.Plain (live_view site later the_name) v) left r) in
    let read = second_told h.2.0 later value same second h.2.2.0 h.2.2.1 in
    ap (λ told. told ++ (between ++ (second ++ []))) began.0 ∙ (ap (λ told. told ++ (second ++ [])) own.1.0
    ∙ ap (λ told. told ++ []) read)

restart_site : (age : Option ℤ) (later : ℤ) → IsSite list shop (restart_acts age later)
restart_site age later = record {
  own_form = own_form;
  no_empty_label = no_empty_label;
  sessions = (by_session age (Arrives (at 5)), (tt, (tt, tt)));
  apart = (apart_from_none (Arrives (at 5)) the_url (at 0) (the_set age ∷ []) refl, (tt, (tt, tt)));
}

restart_visit : (age : Option ℤ) (later : ℤ) (value : Option (List ℕ))
    → ((v : Option (List ℕ)) → IsReadAt kinds.Plain (kept age later the_name) v → v ≡ value)
    → (readings : List Reading)
    → SitesReadTheirOwn list (restart_acts age later) readings → readings ≡ Value Plain the_name value ∷ []
restart_visit age later value reads readings h =
    let e = h.sites shop (restart_site age later) in
    h.read ∙ three_told age later value reads h.told e.0 h.own e.1

-- without a death it is read no longer, with one until then
not_kept : (readings : List Reading) → SitesReadTheirOwn list (restart_acts None (at 6)) readings
    → readings ≡ Value Plain the_name None ∷ []
not_kept = restart_visit None (at 6) None (λ v read. read)

still_kept : (readings : List Reading)
    → SitesReadTheirOwn list (restart_acts (Some (pos 10_000_000_000)) (at 14)) readings
    → readings ≡ Value Plain the_name (Some the_value) ∷ []
still_kept = restart_visit (Some (pos 10_000_000_000)) (at 14) (Some the_value) (λ v read. read refl)

kept_no_longer : (readings : List Reading)
    → SitesReadTheirOwn list (restart_acts (Some (pos 10_000_000_000)) (at 15)) readings
    → readings ≡ Value Plain the_name None ∷ []
kept_no_longer = restart_visit (Some (pos 10_000_000_000)) (at 15) None (λ v read. read)
