-- The commands of a session on a ring, and the plain ones that do them: what a site reads on the ring.
use Rattle.std.proofs.Common.{◌≡◌, ◌≢◌, ◌∙◌, inl, inr, ℕ, ℤ, List, [], ◌∷◌, ◌++◌, length, Option, Some, None}
use Rattle.std.proofs.Common.{MatchOption, refl, ap, sym, subst, cond, arith, ◌<◌}
use Rattle.std.specs.List.{AllByRecursion}
use Rattle.std.specs.Str.{IsUtf8}
use Rattle.jiff.specs.Types.{DateTime}
use Rattle.jiff.specs.Words.{civil_nanos}
use Rattle.cookie_text.specs.Normal.{normal}
use Rattle.cookie_text.specs.Record.{Record, Seen, bare, unsliced}
use Rattle.cookie_text.specs.Setting.{with_value}
use Rattle.cookie.specs.Jar.{view}
use Rattle.cookie.specs.KeyRing.{Ring}
use Rattle.cookie.specs.Sealing.{IsSealing}
use Rattle.cookie.specs.Signing.{signing}
use Rattle.store_parts.specs.Expiry.{death}
use Rattle.saved_text.specs.DateReading.{AreOfOneMoment}
use Rattle.saved_text.specs.PrintedDates.{PrintedDatesAreRead}
use Rattle.cookie_client.specs.Ending.{IsKeptUntil, IsReadBefore, dated_text}
use Rattle.cookie_client.specs.Jar.{Keyed, Sets, record_in, value_in}
use Rattle.cookie_client.specs.Steps.{GetTells, Tells}
use Rattle.cookie_client.specs.PlainSets.{any_nonce}
use Rattle.cookie_run.specs.RingHeadline.{HasText}
use Rattle.cookie_run.specs.RingPlain.{IsPlainCommand}
use Rattle.cookie_run.specs.RingPlay as ring
use Rattle.cookie_run.specs.RingPlay.{RingCommand, RingCommandTells, RingReading, RingTells}
use Rattle.cookie_client.specs.RingSession.{KeepsRing, Ringed, SetsUntil, keyed}
use Rattle.cookie_run.specs.RingSite.{IsEndingReadOf, Put, RingCommandsOn, RingView, StandsBy, Until, ending_entry}
use Rattle.cookie_run.specs.RingSite.{Form, Change, form_of, ring_entry_of}
use Rattle.cookie_run.specs.RingSite as held
use Rattle.cookie_run.specs.Site.{View}
use Rattle.cookie_client.specs.Ways.{is_too_long, kind_of, refusal_of, stored_name}
use Rattle.cookie_run.specs.Site as site
use Rattle.cookie_client.specs.Ways as kinds
use Rattle.cookie_client.specs.declared.ending.EndingWay.{EndingWay}
use Rattle.cookie_client.specs.declared.command.Command.{Command}
use Rattle.cookie_client.specs.declared.command.Command.TheVariants.{Set, Remove, Get}
use Rattle.cookie_client.specs.declared.command.Reading.{Reading}
use Rattle.cookie_client.specs.declared.command.Reading.TheVariants.{Value}
use Rattle.cookie_client.specs.declared.outcome.SessionError.{SessionError}
use Rattle.cookie_client.specs.declared.outcome.SessionError.TheVariants.{EmptyName, Year}
use Rattle.cookie_client.specs.declared.way.Way.{Way}
use Rattle.cookie_client.specs.declared.way.Way.TheVariants.{Plain, Host, Secure, Signed, Sealed}
use Rattle.cookie_run.proofs.Commands.{CommandsIn, EndsLate, Gets}
use Rattle.cookie_client.proofs.EndingBack.{IsOneSealed, kept_stands}
use Rattle.cookie_client.proofs.EndingDates.{dated_is, read_till, utf8_dated}
use Rattle.cookie_client.proofs.EndingTexts.{CodesHave32}
use Rattle.cookie_client.proofs.PlainSetLemmas.{signed_plain, sealed_plain}
use Rattle.cookie_run.proofs.RingAlike.{AlikeViews, Does, IsWrite, LeaveAlike, TellsPlain, puts, shows, stays, takes}
use Rattle.cookie_run.proofs.RingPlainLemmas.{all_append, any_set, tells_append}
use Rattle.cookie_run.proofs.RingTexts.{IsNamed, ReadsText, set_named, take_named, until_text, way_text}
use Rattle.cookie_client.proofs.Sessions.{stored_named, then_none}
use Rattle.cookie_client.proofs.SessionTexts.{not_nil}
use Rattle.cookie_client.proofs.Texts.{some_is_not_none}

-- what public laws promise
pub record RingLaws : Type 0 where
  pub sizes : CodesHave32
  pub one : IsOneSealed
  pub signed : (k value : List ℕ) → IsUtf8 value → IsUtf8 (signing k value)
  pub sealed : (k name value text : List ℕ) → IsSealing k name value text → IsUtf8 text
  pub printed : PrintedDatesAreRead
  pub moment : AreOfOneMoment

-- the commands that do one of a session, in which cookies stand under their names
pub record Mirrors (Counts : List ℕ → Type 0) (Read : Gets) (old new : Ringed) (c : RingCommand)
    (told : List RingReading) : Type 0 where
  pub plain : List Command
  pub read : List Reading
  pub are_plain : AllByRecursion IsPlainCommand plain
  pub tells : Tells (keyed old) (civil_nanos old.moment) plain read (keyed new)
  pub ring : KeepsRing old new
  pub named : IsNamed new.jar
  pub does : Does Counts Read old.ring old.moment c told plain read

unchanged : (Counts : List ℕ → Type 0) (Read : Gets) → (old new : Ringed) (c : RingCommand)
    (told : List RingReading) → new ≡ old → IsNamed old.jar
    → ((ringed : RingView) → held.RingCommandOn Counts old.ring old.moment ringed c told [] ringed)
    → Mirrors Counts Read old new c told
unchanged Counts Read old new c told is named on = record {
  plain = [];
  read = [];
  are_plain = tt;
  tells = (refl, ap keyed is);
  ring = (ap (λ (s : Ringed). s.ring) is, ap (λ (s : Ringed). s.moment) is);
  named = subst (λ (s : Ringed). IsNamed s.jar) (sym is) named;
  does = stays Counts Read old.ring old.moment c told on;
}

-- ---- sets

-- a plain set
sets : (Counts : List ℕ → Type 0) (Read : Gets) → (old new : Ringed) (c : RingCommand) (told : List RingReading)
    (name text : List ℕ) (cookie : Record)
    (way : Way) (s : Seen) (entry : held.RingEntry) → IsPlainCommand (Set way s) → IsWrite name text cookie way s
    → StandsBy entry.form name text entry.key entry.content → length entry.key ≡ 64 → IsNamed old.jar
    → Sets any_nonce (keyed old) way s (keyed new) → KeepsRing old new
    → ((ringed : RingView) → held.RingCommandOn Counts old.ring old.moment ringed c told (Put name entry cookie ∷ [])
    (site.with_at ringed name (Some entry))) → Mirrors Counts Read old new c told
sets Counts Read old new c told name text cookie way s entry is w stands long named set keeps on = record {
  plain = Set way s ∷ [];
  read = [];
  are_plain = (is, tt);
  tells = ([], [], keyed new, inl (refl, set), (refl, refl), refl);
  ring = keeps;
  named = set_named any_nonce (keyed old) (keyed new) way s set named;
  does = puts Counts Read old.ring old.moment c told name text cookie way s entry w stands long on;
}

accepted_plain : (way : Way) (c : Record) → kinds.set_refusal way c ≡ None → kinds.set_refusal Plain c ≡ None
accepted_plain way c none =
    let free = then_none (refusal_of c.name c.expires) (is_too_long way c.name c.value) none in
    rw free.0 refl

as_it_is : (way : Way) (s : Seen) → kind_of way ≡ kinds.Plain → kinds.set_refusal way s.cookie ≡ None
    → IsWrite (stored_name way s.cookie.name) s.cookie.value s.cookie way s
as_it_is way s plain none =
    record { plain = plain; accepted = none; named = refl; value = refl; ends = λ at. refl }

with_text : (way : Way) (s : Seen) (text : List ℕ) → kinds.set_refusal way s.cookie ≡ None
    → IsWrite s.cookie.name text s.cookie Plain (with_value s text)
with_text way s text none = record {
  plain = refl;
  accepted = accepted_plain way s.cookie none;
  named = refl;
  value = refl;
  ends = λ at. refl;
}

set_on : (Counts : List ℕ → Type 0) → (old : Ringed) (way : Way) (s : Seen) (told : List RingReading) → told ≡ []
    → kinds.set_refusal way s.cookie ≡ None → (ringed : RingView)
    → held.RingCommandOn Counts old.ring old.moment ringed (ring.Set way s) told
    (Put (stored_name way s.cookie.name) (ring_entry_of old.ring way s.cookie) s.cookie ∷ [])
    (site.with_at ringed (stored_name way s.cookie.name) (Some (ring_entry_of old.ring way s.cookie)))
set_on Counts old way s told is none ringed = inl (is, none, refl, refl)

set_mirrors : (Counts : List ℕ → Type 0) (Read : Gets) → RingLaws → (old new : Ringed) (way : Way) (s : Seen)
    (told : List RingReading)
    → length old.ring.current ≡ 64 → IsNamed old.jar → told ≡ [] → Sets any_nonce (keyed old) way s (keyed new)
    → KeepsRing old new → Mirrors Counts Read old new (ring.Set way s) told
set_mirrors Counts Read laws old new Plain s told long named is set keeps =
    sets Counts Read old new (ring.Set Plain s) told s.cookie.name s.cookie.value s.cookie Plain s
    (ring_entry_of old.ring Plain s.cookie) ((λ e. cc e), (λ e. cc e)) (as_it_is Plain s refl set.accepted) refl long
    named set keeps (set_on Counts old Plain s told is set.accepted)
set_mirrors Counts Read laws old new Host s told long named is set keeps =
    sets Counts Read old new (ring.Set Host s) told (stored_name Host s.cookie.name) s.cookie.value s.cookie Host s
    (ring_entry_of old.ring Host s.cookie) ((λ e. cc e), (λ e. cc e)) (as_it_is Host s refl set.accepted) refl long
    named set keeps (set_on Counts old Host s told is set.accepted)
set_mirrors Counts Read laws old new Secure s told long named is set keeps =
    sets Counts Read old new (ring.Set Secure s) told
    (stored_name Secure s.cookie.name) s.cookie.value s.cookie Secure s
    (ring_entry_of old.ring Secure s.cookie) ((λ e. cc e), (λ e. cc e)) (as_it_is Secure s refl set.accepted) refl
    long named set keeps (set_on Counts old Secure s told is set.accepted)
set_mirrors Counts Read laws old new Signed s told long named is set keeps =
    let text : List ℕ = signing old.ring.current s.cookie.value in
    sets Counts Read old new (ring.Set Signed s) told s.cookie.name text s.cookie Plain (with_value s text)
    (ring_entry_of old.ring Signed s.cookie) ((λ e. cc e), (λ e. cc e)) (with_text Signed s text set.accepted) refl
    long named (signed_plain laws.signed (keyed old) (keyed new) s set) keeps
    (set_on Counts old Signed s told is set.accepted)
set_mirrors Counts Read laws old new Sealed s told long named is set keeps =
    let p = sealed_plain laws.sealed (keyed old) (keyed new) s set in
    sets Counts Read old new (ring.Set Sealed s) told s.cookie.name p.0 s.cookie Plain (with_value s p.0)
    (ring_entry_of old.ring Sealed s.cookie) ((λ e. cc e), (λ e. cc e)) (with_text Sealed s p.0 set.accepted)
    (set.value, p.1) long named p.2 keeps (set_on Counts old Sealed s told is set.accepted)

-- until a moment
until_mirrors : (Counts : List ℕ → Type 0) (Read : Gets) → (old new : Ringed) (way : EndingWay) (s : Seen)
    (until : DateTime) (told : List RingReading)
    → length old.ring.current ≡ 64 → IsUtf8 s.cookie.value → IsNamed old.jar → told ≡ []
    → SetsUntil any_nonce old way s until new → Mirrors Counts Read old new (ring.SetUntil way s until) told
until_mirrors Counts Read old new way s until told long utf8 named is h =
    let text : List ℕ = h.is_kept.0 in
    let name : h.ending.cookie.name ≡ s.cookie.name = ap (λ (x : Seen). x.cookie.name) h.ends.2 in
    let value : h.ending.cookie.value ≡ s.cookie.value = ap (λ (x : Seen). x.cookie.value) h.ends.2 in
    let kept : IsKeptUntil (λ nonce. Unit {0}) way old.ring.current s.cookie.name s.cookie.value until text =
    subst (λ (n : List ℕ). IsKeptUntil (λ nonce. Unit {0}) way old.ring.current n s.cookie.value until text) name
    (subst (λ (v : List ℕ). IsKeptUntil (λ nonce. Unit {0}) way old.ring.current h.ending.cookie.name v until text)
    value h.is_kept.1) in
    let stands = kept_stands way s.cookie.name s.cookie.value text old.ring.current until
    (utf8_dated until s.cookie.value utf8) kept in
    let writes : IsWrite s.cookie.name text h.ending.cookie Plain h.kept =
    record {
      plain = refl;
      accepted = h.sets.accepted;
      named = ap (λ (x : Seen). x.cookie.name) h.is_kept.2 ∙ name;
      value = ap (λ (x : Seen). x.cookie.value) h.is_kept.2;
      ends = λ at. ap (λ (x : Seen). death (normal x.cookie) at) h.is_kept.2;
    } in
    sets Counts Read old new (ring.SetUntil way s until) told s.cookie.name text h.ending.cookie Plain h.kept
    (ending_entry old.ring way s.cookie until) ((λ e. cc e), (λ e. cc e)) writes stands long named
    (any_set (keyed old) (keyed new) h.kept h.sets) h.parts
    (λ ringed. inl (h.ending, h.ends, is, h.accepted, refl, refl))

-- ---- removals

some_error : (x y : SessionError) → Some x ≡ Some y → x ≡ y
some_error x y e = cc e

removal_mirrors : (Counts : List ℕ → Type 0) (Read : Gets) → (old new : Ringed) (way : Way) (name : List ℕ)
    (told : List RingReading)
    → EndsLate (civil_nanos old.moment) → IsNamed old.jar → ring.RingRemoveTells old way name told new
    → Mirrors Counts Read old new (ring.Remove way name) told
removal_mirrors Counts Read old new way [] told late named (inl h) =
    absurd (some_is_not_none EmptyName (sym h.1.accepted.2))
removal_mirrors Counts Read old new way (b ∷ bs) told late named (inl h) = record {
  plain = Remove way (b ∷ bs) ∷ [];
  read = [];
  are_plain = (tt, tt);
  tells = ([], [], keyed new, (old.moment, refl, inl (refl, h.1)), (refl, refl), refl);
  ring = h.2;
  named = take_named (keyed old) (keyed new) way (b ∷ bs) old.moment h.1 named;
  does = takes Counts Read old.ring old.moment (ring.Remove way (b ∷ bs)) told way b bs (λ ringed. (h.0, refl, refl));
}
removal_mirrors Counts Read old new way [] told late named (inr h) =
    unchanged Counts Read old new (ring.Remove way []) told h.3 named
    (λ ringed. (h.1 ∙ ap (λ e. ring.Refused e ∷ []) (some_error h.0 EmptyName h.2.2), refl, refl))
removal_mirrors Counts Read old new way (b ∷ bs) told late named (inr h) =
    absurd (some_is_not_none h.0 (h.2.2 ∙ ap (λ x. cond x (Some Year) None) (late old.moment
    (unsliced (bare (b ∷ bs) [])) h.2.0 refl h.2.1)))

-- ---- gets

get_tells : (s : Keyed) (n : List ℕ) → n ≢ []
    → GetTells s Plain n (Value Plain n (value_in (record_in (view s.jar n))) ∷ [])
get_tells s [] some = absurd (some refl)
get_tells s (b ∷ bs) some = (value_in (record_in (view s.jar (b ∷ bs))), refl, refl)

-- by a plain get of the stored name
gets : (Counts : List ℕ → Type 0) (Read : Gets) → TellsPlain Counts Read → RingLaws → (old new : Ringed)
    (c : RingCommand) (told : List RingReading) (form : Form) (n : List ℕ)
    (given : Option (List ℕ × ℕ)) → n ≢ [] → new ≡ old → IsNamed old.jar
    → ReadsText old.moment old.ring form n (value_in (record_in (view old.jar n))) given
    → ((ringed : RingView) → (Counts n → held.IsReadOf old.moment old.ring form n (ringed n) given)
    → held.RingCommandOn Counts old.ring old.moment ringed c told [] ringed) → Mirrors Counts Read old new c told
gets Counts Read tell laws old new c told form n given some is named reads on =
    let value : Option (List ℕ) = value_in (record_in (view old.jar n)) in
    record {
      plain = Get Plain n ∷ [];
      read = Value Plain n value ∷ [];
      are_plain = (((λ e. cc e), (λ e. cc e)), tt);
      tells = (
        Value Plain n value ∷ [],
        [],
        keyed new,
        (get_tells (keyed old) n some, ap keyed is),
        (refl, refl),
        refl,
      );
      ring = (ap (λ (s : Ringed). s.ring) is, ap (λ (s : Ringed). s.moment) is);
      named = subst (λ (s : Ringed). IsNamed s.jar) (sym is) named;
      does = shows laws.sizes laws.one Counts Read tell old.ring old.moment c told form n value given some reads on;
    }

cons_not_nil : (b : ℕ) (bs : List ℕ) → b ∷ bs ≢ []
cons_not_nil b bs e = cc e

some_length : (b : ℕ) (bs : List ℕ) → 0 < length (b ∷ bs)
some_length b bs = omega arith

get_mirrors : (Counts : List ℕ → Type 0) (Read : Gets) → TellsPlain Counts Read → RingLaws → (old new : Ringed)
    (way : Way) (name : List ℕ) (told : List RingReading) → IsNamed old.jar
    → ring.RingGetTells old way name told → new ≡ old → Mirrors Counts Read old new (ring.Get way name) told
get_mirrors Counts Read tell laws old new way [] told named h is =
    unchanged Counts Read old new (ring.Get way []) told is named (λ ringed. (h, refl, refl))
get_mirrors Counts Read tell laws old new way (b ∷ bs) told named h is =
    let n : List ℕ = stored_name way (b ∷ bs) in
    gets Counts Read tell laws old new (ring.Get way (b ∷ bs)) told (form_of way) n h.0
    (not_nil n (stored_named way (b ∷ bs) (some_length b bs))) is named (way_text old way (b ∷ bs) h.0 named h.2)
    (λ ringed reads. ((h.0, h.1, reads), refl, refl))

abbrev ReadsSo : DateTime → Option (List ℕ × ℕ) → Option (List ℕ × ℕ) → Type 0
ReadsSo now given read = MatchOption given (read ≡ None) (λ g. IsReadBefore (civil_nanos now) g.0 g.1 read)

-- what is read of a value until a moment, by what is given of its dated text
ending_read : RingLaws → (now : DateTime) (r : Ring) (way : EndingWay) (name : List ℕ)
    (entry : Option held.RingEntry) (given read : Option (List ℕ × ℕ)) → held.IsReadOf now r
    (Until way) name entry given
    → ReadsSo now given read → IsEndingReadOf now r way name entry read
ending_read laws now r way name entry given read is reads = record {
  given = given;
  is_given = is;
  read_is = reads;
  till = λ until value place from at.
      read_till laws.moment (dated_text until value) value (civil_nanos now) until place read
      (dated_is laws.printed until value from)
      (subst (λ (g : Option (List ℕ × ℕ)). ReadsSo now g read) at reads);
}

until_get_mirrors : (Counts : List ℕ → Type 0) (Read : Gets) → TellsPlain Counts Read → RingLaws →
    (old new : Ringed) (way : EndingWay) (name : List ℕ) (told : List RingReading)
    → IsNamed old.jar → ring.GetUntilTells old way name told → new ≡ old
    → Mirrors Counts Read old new (ring.GetUntil way name) told
until_get_mirrors Counts Read tell laws old new way [] told named h is =
    unchanged Counts Read old new (ring.GetUntil way []) told is named (λ ringed. (h, refl, refl))
until_get_mirrors Counts Read tell laws old new way (b ∷ bs) told named h is =
    let t = until_text old way (b ∷ bs) h.0 h.2 in
    gets Counts Read tell laws old new (ring.GetUntil way (b ∷ bs)) told (Until way) (b ∷ bs) t.0
    (cons_not_nil b bs) is named t.1
    (λ ringed reads. (
      (
        h.0,
        h.1,
        λ counted.
            ending_read laws old.moment old.ring way (b ∷ bs) (ringed (b ∷ bs)) t.0 h.0 (reads counted) t.2,
      ),
      refl,
      refl,
    ))

-- ---- each command

command_mirrors : (Counts : List ℕ → Type 0) (Read : Gets) → TellsPlain Counts Read → RingLaws → (old new : Ringed)
    (c : RingCommand) (told : List RingReading) → HasText c
    → EndsLate (civil_nanos old.moment) → length old.ring.current ≡ 64 → IsNamed old.jar
    → RingCommandTells old c told new → Mirrors Counts Read old new c told
command_mirrors Counts Read tell laws old new (ring.Set way s) told text late long named (inl h) =
    set_mirrors Counts Read laws old new way s told long named h.0 h.1 h.2
command_mirrors Counts Read tell laws old new (ring.Set way s) told text late long named (inr h) =
    unchanged Counts Read old new (ring.Set way s) told h.3 named (λ ringed. inr (h.0, h.1, h.2, refl, refl))
command_mirrors Counts Read tell laws old new (ring.SetUntil way s until) told text late long named (inl h) =
    until_mirrors Counts Read old new way s until told long text named h.0 h.1
command_mirrors Counts Read tell laws old new (ring.SetUntil way s until) told text late long named (inr h) =
    unchanged Counts Read old new (ring.SetUntil way s until) told h.4 named
    (λ ringed. inr (h.0, h.1, h.2, h.3, refl, refl))
command_mirrors Counts Read tell laws old new (ring.Remove way name) told text late long named h =
    removal_mirrors Counts Read old new way name told late named h
command_mirrors Counts Read tell laws old new (ring.Get way name) told text late long named h =
    get_mirrors Counts Read tell laws old new way name told named h.0 h.1
command_mirrors Counts Read tell laws old new (ring.GetUntil way name) told text late long named h =
    until_get_mirrors Counts Read tell laws old new way name told named h.0 h.1

-- ---- one after another

-- what commands read on a ring, where the plain ones read this on alike views
abbrev pub AllDo : (List ℕ → Type 0) → Gets → Ring → DateTime → List RingCommand → List RingReading → List Command
    → List Reading → Type 0
AllDo Counts Read r now commands told cs read = (view : View) (ringed : RingView) (noted : List Command)
    (after : View)
    → AlikeViews view ringed → CommandsIn Read view cs read noted after
    → (changes : List Change) × (ringed_after : RingView)
    × RingCommandsOn Counts r now ringed commands told changes ringed_after × LeaveAlike noted changes

pub record MirrorAll (Counts : List ℕ → Type 0) (Read : Gets) (old new : Ringed) (commands : List RingCommand)
    (told : List RingReading) : Type 0 where
  pub plain : List Command
  pub read : List Reading
  pub are_plain : AllByRecursion IsPlainCommand plain
  pub tells : Tells (keyed old) (civil_nanos old.moment) plain read (keyed new)
  pub ring : KeepsRing old new
  pub does : AllDo Counts Read old.ring old.moment commands told plain read

none_do : (Counts : List ℕ → Type 0) (Read : Gets) → (r : Ring) (now : DateTime) (told : List RingReading)
    → told ≡ [] → AllDo Counts Read r now [] told [] []
none_do Counts Read r now told is view ringed noted after a h =
    ([], ringed, (is, refl, refl), subst (λ (n : List Command). LeaveAlike n []) (sym h.1) (λ at s t same. same))

more_do : (Counts : List ℕ → Type 0) (Read : Gets) → (r : Ring) (now : DateTime) (c : RingCommand)
    (commands : List RingCommand)
    (told first later : List RingReading) (cs ds : List Command) (read then : List Reading) → told ≡ first ++ later
    → Does Counts Read r now c first cs read → AllDo Counts Read r now commands later ds then
    → AllDo Counts Read r now (c ∷ commands) told (cs ++ ds) (read ++ then)
more_do Counts Read r now c commands told first later cs ds read then is one more view ringed noted after a h =
    let d = one view ringed ds then noted after a h in
    let rest = more d.0 d.1 d.2 after d.5 d.6 in (
      d.3 ++ rest.0,
      rest.1,
      (first, later, d.3, rest.0, d.1, d.4, rest.2, is, refl),
      d.7 rest.0 rest.3,
    )

pub all_mirror : (Counts : List ℕ → Type 0) (Read : Gets) → TellsPlain Counts Read → RingLaws → (old new : Ringed)
    (commands : List RingCommand) (told : List RingReading)
    → AllByRecursion HasText commands → EndsLate (civil_nanos old.moment) → length old.ring.current ≡ 64
    → IsNamed old.jar → RingTells old commands told new → MirrorAll Counts Read old new commands told
all_mirror Counts Read tell laws old new [] told text late long named h = record {
  plain = [];
  read = [];
  are_plain = tt;
  tells = (refl, ap keyed h.1);
  ring = (ap (λ (s : Ringed). s.ring) h.1, ap (λ (s : Ringed). s.moment) h.1);
  does = none_do Counts Read old.ring old.moment told h.0;
}
all_mirror Counts Read tell laws old new (c ∷ cs) told text late long named h =
    let mid : Ringed = h.2 in
    let m = command_mirrors Counts Read tell laws old mid c h.0 text.0 late long named h.3 in
    let moment : civil_nanos mid.moment ≡ civil_nanos old.moment = ap civil_nanos m.ring.1 in
    let rest = all_mirror Counts Read tell laws mid new cs h.1 text.1 (subst EndsLate (sym moment) late)
    (ap (λ (r : Ring). length r.current) m.ring.0 ∙ long) m.named h.4 in
    let tells = subst (λ (at : ℤ). Tells (keyed mid) at rest.plain rest.read (keyed new)) moment rest.tells in
    let doing = subst (λ (r : Ring). AllDo Counts Read r old.moment cs h.1 rest.plain rest.read) m.ring.0
    (subst (λ (now : DateTime). AllDo Counts Read mid.ring now cs h.1 rest.plain rest.read) m.ring.1 rest.does) in
    record {
      plain = m.plain ++ rest.plain;
      read = m.read ++ rest.read;
      are_plain = all_append m.plain rest.plain m.are_plain rest.are_plain;
      tells = tells_append m.plain rest.plain (keyed old) (keyed mid) (keyed new) (civil_nanos old.moment) m.read
          rest.read m.tells tells;
      ring = (rest.ring.0 ∙ m.ring.0, rest.ring.1 ∙ m.ring.1);
      does = more_do Counts Read old.ring old.moment c cs told h.0 h.1 m.plain rest.plain m.read rest.read h.5
          m.does doing;
    }
