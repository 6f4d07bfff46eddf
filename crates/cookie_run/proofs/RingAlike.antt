-- A site on a ring beside the site of the texts that stand for what it holds.
use Rattle.std.proofs.Common.{◌≡◌, ◌≢◌, ◌∙◌, inl, inr, Bool, true, false, cond, ℕ, ℤ, List, [], ◌∷◌, ◌++◌, length}
use Rattle.std.proofs.Common.{Option, Some}
use Rattle.std.proofs.Common.{None, refl, ap, sym, subst}
use Rattle.std.specs.Prelude.{⊤}
use Rattle.std.specs.Str.{bytes_eq}
use Rattle.jiff.specs.Types.{DateTime}
use Rattle.cookie_text.specs.Normal.{normal}
use Rattle.cookie_text.specs.Record.{Record, Seen}
use Rattle.cookie.specs.KeyRing.{Ring}
use Rattle.store_parts.specs.Expiry.{death, is_dead}
use Rattle.cookie_run.specs.RingPlay.{RingCommand, RingReading}
use Rattle.cookie_run.specs.RingSite.{Change, Form, IsReadOf, Put, RingCommandOn, RingEntry, RingHeld, RingSite}
use Rattle.cookie_run.specs.RingSite.{RingView}
use Rattle.cookie_run.specs.RingSite.{StandsBy, Take, changed, changed_all, put_from, ring_entry_in, ring_lasting_at}
use Rattle.cookie_run.specs.RingSite.{ring_live_at, ring_live_view, ring_restarted}
use Rattle.cookie_run.specs.Site.{Entry, Held, IsReadAt, RemoveOn, SetOn, Site, View}
use Rattle.cookie_client.specs.Ways.{Kind, Refuses}
use Rattle.cookie_run.specs.Site.{entry_in, entry_of, held_from, is_lasting, lasting_at, left_by, left_by_all}
use Rattle.cookie_client.specs.Ways.{kind_of}
use Rattle.cookie_run.specs.Site.{live_at, live_view, restarted, with_at}
use Rattle.cookie_client.specs.Ways.{set_refusal, stored_name}
use Rattle.cookie_client.specs.Ways as site
use Rattle.cookie_client.specs.declared.command.Command.{Command}
use Rattle.cookie_client.specs.declared.command.Command.TheVariants.{Set, Remove, Get}
use Rattle.cookie_client.specs.declared.command.Reading.{Reading}
use Rattle.cookie_client.specs.declared.command.Reading.TheVariants.{Value}
use Rattle.cookie_client.specs.declared.outcome.SessionError.{SessionError}
use Rattle.cookie_client.specs.declared.outcome.SessionError.TheVariants.{EmptyName, Year, TooLong, Rng, OutOfMemory}
use Rattle.cookie_client.specs.declared.way.Way.{Way}
use Rattle.cookie_client.specs.declared.way.Way.TheVariants as ways
use Rattle.cookie_run.proofs.Commands.{CommandsIn, Gets}
use Rattle.cookie_client.proofs.EndingBack.{IsOneSealed}
use Rattle.cookie_client.proofs.EndingTexts.{CodesHave32}
use Rattle.cookie_run.proofs.RingGiven.{given_of}
use Rattle.cookie_run.proofs.RingTexts.{ReadsText}
use Rattle.cookie_client.proofs.Texts.{same_text, some_is_not_none}

-- ---- entries

-- a plain entry has a text that stands for this one
pub record IsTextOf (name : List ℕ) (e : Entry) (r : RingEntry) : Type 0 where
  pub plain : e.kind ≡ site.Plain
  pub stands : StandsBy r.form name e.value r.key r.content
  pub long : length r.key ≡ 64

abbrev pub Alike : List ℕ → Option Entry → Option RingEntry → Type 0
Alike name None None = ⊤
Alike name None (Some r) = ⊥
Alike name (Some e) None = ⊥
Alike name (Some e) (Some r) = IsTextOf name e r

abbrev pub AlikeHeld : List ℕ → Option Held → Option RingHeld → Type 0
AlikeHeld name None None = ⊤
AlikeHeld name None (Some r) = ⊥
AlikeHeld name (Some h) None = ⊥
AlikeHeld name (Some h) (Some r) = IsTextOf name h.entry r.entry × (h.death ≡ r.death)

abbrev pub AlikeViews : View → RingView → Type 0
AlikeViews view ringed = (name : List ℕ) → Alike name (view name) (ringed name)

abbrev pub AlikeSites : Site → RingSite → Type 0
AlikeSites held ringed = (name : List ℕ) → AlikeHeld name (held name) (ringed name)

-- ---- by moments

cond_held : (name : List ℕ) (b : Bool) (h : Option Held) (r : Option RingHeld) → AlikeHeld name h r
    → AlikeHeld name (cond b None h) (cond b None r)
cond_held name true h r a = tt
cond_held name false h r a = a

some_held : (name : List ℕ) (b : Bool) (h : Option Held) (r : Option RingHeld) → AlikeHeld name h r
    → AlikeHeld name (cond b h None) (cond b r None)
some_held name true h r a = a
some_held name false h r a = tt

pub alike_live : (name : List ℕ) (now : ℤ) (h : Option Held) (r : Option RingHeld) → AlikeHeld name h r
    → AlikeHeld name (live_at now h) (ring_live_at now r)
alike_live name now None None a = tt
alike_live name now None (Some r) a = absurd a
alike_live name now (Some h) None a = absurd a
alike_live name now (Some h) (Some r) a =
    subst (λ (d : Option ℤ). AlikeHeld name (cond (is_dead now h.death) None (Some h)) (cond (is_dead now d) None
    (Some r))) a.1 (cond_held name (is_dead now h.death) (Some h) (Some r) a)

alike_lasting : (name : List ℕ) (now : ℤ) (h : Option Held) (r : Option RingHeld) → AlikeHeld name h r
    → AlikeHeld name (lasting_at now h) (ring_lasting_at now r)
alike_lasting name now None None a = tt
alike_lasting name now None (Some r) a = absurd a
alike_lasting name now (Some h) None a = absurd a
alike_lasting name now (Some h) (Some r) a =
    subst (λ (d : Option ℤ). AlikeHeld name (cond (is_lasting now h.death) (Some h) None) (cond (is_lasting now d)
    (Some r) None)) a.1 (some_held name (is_lasting now h.death) (Some h) (Some r) a)

alike_entry : (name : List ℕ) (h : Option Held) (r : Option RingHeld) → AlikeHeld name h r
    → Alike name (entry_in h) (ring_entry_in r)
alike_entry name None None a = tt
alike_entry name None (Some r) a = absurd a
alike_entry name (Some h) None a = absurd a
alike_entry name (Some h) (Some r) a = a.0

pub alike_views : (held : Site) (ringed : RingSite) (now : ℤ) → AlikeSites held ringed
    → AlikeViews (live_view held now) (ring_live_view ringed now)
alike_views held ringed now a name =
    alike_entry name (live_at now (held name)) (ring_live_at now (ringed name))
    (alike_live name now (held name) (ringed name) (a name))

pub alike_restarted : (held : Site) (ringed : RingSite) (now : ℤ) → AlikeSites held ringed
    → AlikeSites (restarted held now) (ring_restarted ringed now)
alike_restarted held ringed now a name = alike_lasting name now (held name) (ringed name) (a name)

-- ---- by names

alike_cond : (name : List ℕ) (b : Bool) (e o : Option Entry) (r p : Option RingEntry) → (b ≡ true → Alike name e r)
    → Alike name o p → Alike name (cond b e o) (cond b r p)
alike_cond name true e o r p h a = h refl
alike_cond name false e o r p h a = a

held_cond : (name : List ℕ) (b : Bool) (e o : Option Held) (r p : Option RingHeld) → (b ≡ true → AlikeHeld name e r)
    → AlikeHeld name o p → AlikeHeld name (cond b e o) (cond b r p)
held_cond name true e o r p h a = h refl
held_cond name false e o r p h a = a

alike_with : (view : View) (ringed : RingView) (n : List ℕ) (e : Option Entry) (r : Option RingEntry) → Alike n e r
    → AlikeViews view ringed → AlikeViews (with_at view n e) (with_at ringed n r)
alike_with view ringed n e r here a name =
    alike_cond name (bytes_eq name n) e (view name) r (ringed name)
    (λ same. subst (λ (m : List ℕ). Alike m e r) (sym (same_text name n same)) here) (a name)

held_with : (held : Site) (ringed : RingSite) (n : List ℕ) (e : Option Held) (r : Option RingHeld) → AlikeHeld n e r
    → AlikeSites held ringed → AlikeSites (with_at held n e) (with_at ringed n r)
held_with held ringed n e r here a name =
    held_cond name (bytes_eq name n) e (held name) r (ringed name)
    (λ same. subst (λ (m : List ℕ). AlikeHeld m e r) (sym (same_text name n same)) here) (a name)

-- ---- commands

-- what commands leave is alike, whenever it is delivered
abbrev pub LeaveAlike : List Command → List Change → Type 0
LeaveAlike noted changes = (at : ℤ) (held : Site) (ringed : RingSite) → AlikeSites held ringed
    → AlikeSites (left_by_all at held noted) (changed_all at ringed changes)

-- a command on a ring, and the commands that do it: whatever is read by these and later ones on alike views, the
-- command reads what it told, and the later ones go on from alike views
abbrev pub Does : (List ℕ → Type 0) → Gets → Ring → DateTime → RingCommand → List RingReading → List Command
    → List Reading → Type 0
Does Counts Read r now c told cs read = (view : View) (ringed : RingView) (rest : List Command) (later : List Reading)
    (noted : List Command) (after : View) → AlikeViews view ringed
    → CommandsIn Read view (cs ++ rest) (read ++ later) noted after
    → (mid : View) × (ringed_mid : RingView) × (noted_rest : List Command) × (changes : List Change)
    × RingCommandOn Counts r now ringed c told changes ringed_mid × AlikeViews mid ringed_mid
    × CommandsIn Read mid rest later noted_rest after
    × ((more : List Change) → LeaveAlike noted_rest more → LeaveAlike noted (changes ++ more))

-- one that leaves all as it is
pub stays : (Counts : List ℕ → Type 0) (Read : Gets) (r : Ring) (now : DateTime) (c : RingCommand)
    (told : List RingReading)
    → ((ringed : RingView) → RingCommandOn Counts r now ringed c told [] ringed) → Does Counts Read r now c told [] []
stays Counts Read r now c told on view ringed rest later noted after a h =
    (view, ringed, noted, [], on ringed, a, h, (λ more leaves. leaves))

-- a plain set that writes this text under this name, with the end of this cookie
pub record IsWrite (name text : List ℕ) (cookie : Record) (way : Way) (s : Seen) : Type 0 where
  pub plain : kind_of way ≡ site.Plain
  pub accepted : set_refusal way s.cookie ≡ None
  pub named : stored_name way s.cookie.name ≡ name
  pub value : s.cookie.value ≡ text
  pub ends : (at : ℤ) → death (normal s.cookie) at ≡ death (normal cookie) at

unrefused : (way : Way) (s : Seen) (error : SessionError) → kind_of way ≡ site.Plain
    → set_refusal way s.cookie ≡ None → Refuses way s.cookie error → ⊥
unrefused way s EmptyName plain none is = some_is_not_none EmptyName (sym is ∙ none)
unrefused way s Year plain none is = some_is_not_none Year (sym is ∙ none)
unrefused way s TooLong plain none is = some_is_not_none TooLong (sym is ∙ none)
unrefused way s Rng plain none is =
    let sealed : site.Sealed ≡ site.Plain = ap kind_of (sym is.0) ∙ plain in
    let no : ⊥ = cc sealed in
    no
unrefused way s OutOfMemory plain none is = is

text_entry : (name text : List ℕ) (cookie : Record) (way : Way) (s : Seen) (entry : RingEntry)
    → IsWrite name text cookie way s → StandsBy entry.form name text entry.key entry.content → length entry.key ≡ 64
    → IsTextOf name (entry_of way s.cookie) entry
text_entry name text cookie way s entry w stands long = record {
  plain = w.plain;
  stands = subst (λ (t : List ℕ). StandsBy entry.form name t entry.key entry.content) (sym w.value) stands;
  long = long;
}

put_leaves : (name text : List ℕ) (cookie : Record) (way : Way) (s : Seen) (entry : RingEntry)
    → IsWrite name text cookie way s → StandsBy entry.form name text entry.key entry.content → length entry.key ≡ 64
    → (noted : List Command) (more : List Change) → LeaveAlike noted more
    → LeaveAlike (Set way s ∷ noted) (Put name entry cookie ∷ more)
put_leaves name text cookie way s entry w stands long noted more leaves at held ringed a =
    let put : AlikeHeld name (held_from at way s.cookie) (put_from at entry cookie) =
    alike_live name at (Some (record { entry = entry_of way s.cookie; death = death (normal s.cookie) at }))
    (Some (record { entry = entry; death = death (normal cookie) at }))
    (text_entry name text cookie way s entry w stands long, w.ends at) in
    let first : AlikeSites (with_at held name (held_from at way s.cookie)) (changed at ringed (Put name entry cookie)) =
    held_with held ringed name (held_from at way s.cookie) (put_from at entry cookie) put a in
    leaves at (left_by at held (Set way s)) (changed at ringed (Put name entry cookie))
    (subst (λ (n : List ℕ). AlikeSites (with_at held n (held_from at way s.cookie))
    (changed at ringed (Put name entry cookie))) (sym w.named) first)

-- a set
pub puts : (Counts : List ℕ → Type 0) (Read : Gets) (r : Ring) (now : DateTime) (c : RingCommand)
    (told : List RingReading) (name text : List ℕ)
    (cookie : Record) (way : Way) (s : Seen) (entry : RingEntry) → IsWrite name text cookie way s
    → StandsBy entry.form name text entry.key entry.content → length entry.key ≡ 64
    → ((ringed : RingView) → RingCommandOn Counts r now ringed c told (Put name entry cookie ∷ [])
    (with_at ringed name (Some entry))) → Does Counts Read r now c told (Set way s ∷ []) []
puts Counts Read r now c told name text cookie way s entry w stands long on view ringed rest later noted after a
    (first, then, noted_first, noted_then, mid, inl set, more, read, is) = (
      mid,
      with_at ringed name (Some entry),
      noted_then,
      Put name entry cookie ∷ [],
      on ringed,
      subst (λ (v : View). AlikeViews v (with_at ringed name (Some entry))) (sym set.3)
          (subst (λ (n : List ℕ). AlikeViews (with_at view n (Some (entry_of way s.cookie)))
          (with_at ringed name (Some entry))) (sym w.named)
          (alike_with view ringed name (Some (entry_of way s.cookie)) (Some entry)
          (text_entry name text cookie way s entry w stands long) a)),
      subst (λ (l : List Reading). CommandsIn Read mid rest l noted_then after)
          (sym (read ∙ ap (λ (f : List Reading). f ++ then) set.0)) more,
      (λ changes leaves.
          subst (λ (n : List Command). LeaveAlike n (Put name entry cookie ∷ changes))
          (sym (is ∙ ap (λ (f : List Command). f ++ noted_then) set.2))
          (put_leaves name text cookie way s entry w stands long noted_then changes leaves)),
    )
puts Counts Read r now c told name text cookie way s entry w stands long on view ringed rest later noted after a
    (first, then, noted_first, noted_then, mid, inr refused, more, read, is) =
    absurd (unrefused way s refused.0 w.plain w.accepted refused.2)

-- a removal
pub takes : (Counts : List ℕ → Type 0) (Read : Gets) (r : Ring) (now : DateTime) (c : RingCommand)
    (told : List RingReading) (way : Way) (b : ℕ)
    (bs : List ℕ) → ((ringed : RingView) → RingCommandOn Counts r now ringed c told (Take (stored_name way
    (b ∷ bs)) ∷ [])
    (with_at ringed (stored_name way (b ∷ bs)) None)) → Does Counts Read r now c told (Remove way (b ∷ bs) ∷ []) []
takes Counts Read r now c told way b bs on view ringed rest later noted after a
    (first, then, noted_first, noted_then, mid, taken, more, read, is) =
    let n : List ℕ = stored_name way (b ∷ bs) in (
      mid,
      with_at ringed n None,
      noted_then,
      Take n ∷ [],
      on ringed,
      subst (λ (v : View). AlikeViews v (with_at ringed n None)) (sym taken.2)
          (alike_with view ringed n None None tt a),
      subst (λ (l : List Reading). CommandsIn Read mid rest l noted_then after)
          (sym (read ∙ ap (λ (f : List Reading). f ++ then) taken.0)) more,
      (λ changes leaves.
          subst (λ (l : List Command). LeaveAlike l (Take n ∷ changes))
          (sym (is ∙ ap (λ (f : List Command). f ++ noted_then) taken.1))
          (λ at held ringed h.
          leaves at (with_at held n None) (with_at ringed n None) (held_with held ringed n None None tt h))),
    )

-- ---- a get of a text

-- what is told of a plain get: its value, which is what the view has, where the name counts
abbrev pub TellsPlain : (List ℕ → Type 0) → Gets → Type 0
TellsPlain Counts Read = (view : View) (n : List ℕ) (told : List Reading) → n ≢ [] → Read view ways.Plain n told
    → (value : Option (List ℕ)) × (told ≡ Value ways.Plain n value ∷ [])
    × (Counts n → IsReadAt site.Plain (view n) value)

one_told : (n : List ℕ) (v w : Option (List ℕ)) (xs ys : List Reading)
    → Value ways.Plain n v ∷ xs ≡ Value ways.Plain n w ∷ ys → (w ≡ v) × (xs ≡ ys)
one_told n v w xs ys e = (cc e, cc e)

module _ (sizes : CodesHave32) (one : IsOneSealed) where
  pub read_of : (now : DateTime) (r : Ring) (form : Form) (n : List ℕ) (o : Option Entry) (p : Option RingEntry)
      (value : Option (List ℕ)) (given : Option (List ℕ × ℕ)) → Alike n o p → IsReadAt site.Plain o value
      → ReadsText now r form n value given → IsReadOf now r form n p given
  read_of now r form n None None value given a is reads =
      subst (λ (v : Option (List ℕ)). ReadsText now r form n v given) is reads
  read_of now r form n None (Some q) value given a is reads = absurd a
  read_of now r form n (Some e) None value given a is reads = absurd a
  read_of now r form n (Some e) (Some q) value given a is reads =
      given_of sizes one now r form n q e.value given a.long a.stands
      (subst (λ (v : Option (List ℕ)). ReadsText now r form n v given) (is a.plain) reads)

  -- a get of a text, of which the ring gives this in a form
  pub shows : (Counts : List ℕ → Type 0) (Read : Gets) → TellsPlain Counts Read → (r : Ring) (now : DateTime)
      (c : RingCommand) (told : List RingReading) (form : Form) (n : List ℕ) (value : Option (List ℕ))
      (given : Option (List ℕ × ℕ)) → n ≢ [] → ReadsText now r form n value given
      → ((ringed : RingView) → (Counts n → IsReadOf now r form n (ringed n) given)
      → RingCommandOn Counts r now ringed c told [] ringed)
      → Does Counts Read r now c told (Get ways.Plain n ∷ []) (Value ways.Plain n value ∷ [])
  shows Counts Read tell r now c told form n value given some reads on view ringed rest later noted after a
      (first, then, noted_first, noted_then, mid, got, more, read, is) =
      let g = tell view n first some got.0 in
      let both = one_told n value g.0 later then (read ∙ ap (λ (f : List Reading). f ++ then) g.1) in
      let at : Counts n → IsReadAt site.Plain (view n) value =
      λ counted. subst (λ (v : Option (List ℕ)). IsReadAt site.Plain (view n) v) both.0 (g.2 counted) in (
        view,
        ringed,
        noted_then,
        [],
        on ringed (λ counted. read_of now r form n (view n) (ringed n) value given (a n) (at counted) reads),
        a,
        subst (λ (l : List Reading). CommandsIn Read view rest l noted_then after) (sym both.1)
            (subst (λ (v : View). CommandsIn Read v rest then noted_then after) got.2 more),
        (λ changes leaves.
            subst (λ (l : List Command). LeaveAlike l changes)
            (sym (is ∙ ap (λ (f : List Command). f ++ noted_then) got.1)) leaves),
      )
