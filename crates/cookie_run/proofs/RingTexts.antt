-- What a session on a ring reads of a stored name, by the text that it has there.
use Rattle.std.proofs.Common.{Bool, ◌≡◌, ◌∙◌, ℕ, List, Option, Some, None, MatchOption, refl, ap, sym, subst, arith}
use Rattle.std.specs.Prelude.{IfSome}
use Rattle.std.specs.FinMap as finmap
use Rattle.std.specs.Str.{bytes_eq}
use Rattle.std.proofs.Common.{cond}
use Rattle.jiff.specs.Types.{DateTime}
use Rattle.cookie_text.specs.Record.{Seen}
use Rattle.cookie_text.specs.Setting.{MakesRemoval}
use Rattle.cookie.specs.declared.delta.DeltaCookie.TheVariants.{Removed}
use Rattle.cookie.specs.Jar.{Jar, overlaid, view, with_change, without_change}
use Rattle.cookie.specs.KeyRing.{Ring, GivesUnder, ReadsFoundUnder, ReadsUnder}
use Rattle.cookie.specs.Reading.{IsSigned, IsSealed}
use Rattle.cookie.specs.Sealing.{IsSealing}
use Rattle.cookie_client.specs.Ending.{IsReadBefore}
use Rattle.jiff.specs.Words.{civil_nanos}
use Rattle.cookie_client.specs.Jar.{IsOpenedBy, Keyed, Sets, TakesOut, record_in, taken, value_in}
use Rattle.cookie_client.specs.RingSession.{ReadsEnding, RingReadsIn, Ringed, at_0, value_placed}
use Rattle.cookie_run.specs.RingSite.{Form, Plain, Signed, Sealed, Until, StandsBy, form_of}
use Rattle.cookie_client.specs.Ways.{stored_name}
use Rattle.cookie_client.specs.declared.ending.EndingWay.{EndingWay}
use Rattle.cookie_client.specs.declared.way.Way.{Way}
use Rattle.cookie_client.specs.declared.way.Way.TheVariants as ways
use Rattle.cookie_run.proofs.Commands.{named_gone, overlaid_gone, overlaid_removed}
use Rattle.cookie_client.proofs.Sessions.{get_insert, get_remove}
use Rattle.cookie_client.proofs.SessionTexts.{last_named, view_original}
use Rattle.cookie_run.proofs.Showing.{named_cond, seen_named, view_change}
use Rattle.cookie_client.proofs.Texts.{same_text}

-- ---- each cookie of a session stands under its name

abbrev pub IsNamed : Jar → Type 0
IsNamed jar = (q : List ℕ) → IfSome (view jar q) (λ s. s.cookie.name ≡ q)

pub opened_named : {b : Bool} (key header : List ℕ) (s : Keyed) → IsOpenedBy b key header s → IsNamed s.jar
opened_named key header s h q =
    let brought =
    subst (λ o. IfSome o (λ c. c.name ≡ q)) (sym (h.holds.originals q)) (last_named h.cookies q) in
    subst (λ (o : Option Seen). IfSome o (λ x. x.cookie.name ≡ q)) (sym (view_original s.jar q h.holds.changes))
    (seen_named (finmap.get s.jar.originals q) q brought)

pub set_named : (May : List ℕ → Type 0) (old new : Keyed) (way : Way) (s : Seen) → Sets May old way s new
    → IsNamed old.jar → IsNamed new.jar
set_named May old new way s h named q =
    let kept : Seen = h.keeps.0 in
    let is : view new.jar q ≡ cond (bytes_eq q kept.cookie.name) (Some kept) (view old.jar q) =
    ap (λ (j : Jar). view j q) h.keeps.2 ∙ view_change old.jar kept q in
    subst (λ (o : Option Seen). IfSome o (λ x. x.cookie.name ≡ q)) (sym is)
    (named_cond q (bytes_eq q kept.cookie.name) kept (view old.jar q)
    (λ e. sym (same_text q kept.cookie.name e)) (named q))

taken_named : (old new : Jar) (n : List ℕ) (c : Seen) (now : DateTime) (o : Option Seen)
    → finmap.get old.originals n ≡ o
    → MatchOption o (new ≡ without_change old n)
    (λ _. (removal : Seen) × MakesRemoval c now removal × (new ≡ with_change old (Removed removal)))
    → IsNamed old → IsNamed new
taken_named old new n c now None found is named q =
    let at : view new q ≡ cond (bytes_eq q n) None (view old q) =
    ap (λ (j : Jar). view j q) is
    ∙ (ap (λ o. overlaid o (finmap.get old.originals q)) (get_remove old.changes n q)
    ∙ overlaid_gone (bytes_eq q n) (finmap.get old.changes q) (finmap.get old.originals q)
    (λ e. ap (finmap.get old.originals) (same_text q n e) ∙ found)) in
    subst (λ (o : Option Seen). IfSome o (λ x. x.cookie.name ≡ q)) (sym at)
    (named_gone q (bytes_eq q n) (view old q) (named q))
taken_named old new n c now (Some x) found is named q =
    let r : Seen = is.0 in
    let at : view new q ≡ cond (bytes_eq q r.cookie.name) None (view old q) =
    ap (λ (j : Jar). view j q) is.2
    ∙ (ap (λ o. overlaid o (finmap.get old.originals q)) (get_insert old.changes r.cookie.name (Removed r) q)
    ∙ overlaid_removed (bytes_eq q r.cookie.name) r (finmap.get old.changes q) (finmap.get old.originals q)) in
    subst (λ (o : Option Seen). IfSome o (λ x. x.cookie.name ≡ q)) (sym at)
    (named_gone q (bytes_eq q r.cookie.name) (view old q) (named q))

pub take_named : (old new : Keyed) (way : Way) (name : List ℕ) (now : DateTime) → TakesOut old way name now new
    → IsNamed old.jar → IsNamed new.jar
take_named old new way name now h named =
    taken_named old.jar new.jar (stored_name way name) (taken way name) now
    (finmap.get old.jar.originals (stored_name way name)) refl h.removes named

-- ---- what is read of a text

-- what a ring gives of a text that there may be
abbrev pub ReadsText : DateTime → Ring → Form → List ℕ → Option (List ℕ) → Option (List ℕ × ℕ) → Type 0
ReadsText now ring form name text read =
    MatchOption text (read ≡ None) (λ t. GivesUnder (StandsBy form name t) now ring read)

-- where two ways to give are alike
abbrev AreAlike : (List ℕ → List ℕ → Type 0) → (List ℕ → List ℕ → Type 0) → Type 0
AreAlike P Q = (k v : List ℕ) → (P k v → Q k v) × (Q k v → P k v)

given_alike : (P Q : List ℕ → List ℕ → Type 0) (now : DateTime) (ring : Ring) (given : Option (List ℕ × ℕ))
    → AreAlike P Q → GivesUnder P now ring given → GivesUnder Q now ring given
given_alike P Q now ring None same none = λ p k v at q. none p k v at ((same k v).1 q)
given_alike P Q now ring (Some g) same it = record {
  key = it.key;
  counts = it.counts;
  gives = (same it.key g.0).0 it.gives;
  first = λ p k v lt at q. it.first p k v lt at ((same k v).1 q);
}

child_text : (StandsFor : List ℕ → Seen → List ℕ → Type 0) (Q : List ℕ → List ℕ → Type 0) (now : DateTime)
    (ring : Ring) (s : Seen) (found : Option (Seen × ℕ)) → AreAlike (λ k v. StandsFor k s v) Q
    → ReadsUnder StandsFor now ring s found → GivesUnder Q now ring (value_placed found)
child_text StandsFor Q now ring s None same none = λ p k v at q. none p k v at ((same k v).1 q)
child_text StandsFor Q now ring s (Some r) same it =
    let given : r.0.cookie.value ≡ it.0 = ap (λ (x : Seen). x.cookie.value) it.2 in
    subst (λ (v : List ℕ). GivesUnder Q now ring (Some (v, r.1))) (sym given)
    (given_alike (λ k v. StandsFor k s v) Q now ring (Some (it.0, r.1)) same it.1)

none_placed : (found : Option (Seen × ℕ)) → found ≡ None → value_placed found ≡ None
none_placed found is = ap value_placed is

signed_text : (now : DateTime) (ring : Ring) (name : List ℕ) (o : Option Seen) (found : Option (Seen × ℕ))
    (read : Option (List ℕ × ℕ)) → ReadsFoundUnder IsSigned now ring o found → read ≡ value_placed found
    → ReadsText now ring Signed name (value_in (record_in o)) read
signed_text now ring name None found read h is = is ∙ none_placed found h
signed_text now ring name (Some s) found read h is =
    subst (λ (r : Option (List ℕ × ℕ)). GivesUnder (StandsBy Signed name s.cookie.value) now ring r) (sym is)
    (child_text IsSigned (StandsBy Signed name s.cookie.value) now ring s found (λ k v. (λ p. p, λ q. q)) h)

sealed_text : (now : DateTime) (ring : Ring) (name : List ℕ) (o : Option Seen) (found : Option (Seen × ℕ))
    (read : Option (List ℕ × ℕ)) → IfSome o (λ s. s.cookie.name ≡ name) → ReadsFoundUnder IsSealed now ring o found
    → read ≡ value_placed found → ReadsText now ring Sealed name (value_in (record_in o)) read
sealed_text now ring name None found read named h is = is ∙ none_placed found h
sealed_text now ring name (Some s) found read named h is =
    subst (λ (r : Option (List ℕ × ℕ)). GivesUnder (StandsBy Sealed name s.cookie.value) now ring r) (sym is)
    (child_text IsSealed (StandsBy Sealed name s.cookie.value) now ring s found
    (λ k v. (
      λ p. (p.0, subst (λ (n : List ℕ). IsSealing k n v s.cookie.value) named p.1),
      λ q. (q.0, subst (λ (n : List ℕ). IsSealing k n v s.cookie.value) (sym named) q.1),
    )) h)

plain_text : (now : DateTime) (ring : Ring) (name : List ℕ) (text : Option (List ℕ)) (read : Option (List ℕ × ℕ))
    → read ≡ at_0 text → ReadsText now ring Plain name text read
plain_text now ring name None read is = is
plain_text now ring name (Some t) read is =
    subst (λ (r : Option (List ℕ × ℕ)). GivesUnder (StandsBy Plain name t) now ring r) (sym is)
    (record {
      key = ring.current;
      counts = refl;
      gives = refl;
      first = λ p k v lt at q. omega (arith, lt);
    })

pub way_text : (s : Ringed) (way : Way) (name : List ℕ) (read : Option (List ℕ × ℕ)) → IsNamed s.jar
    → RingReadsIn s way name read
    → ReadsText s.moment s.ring (form_of way) (stored_name way name)
    (value_in (record_in (view s.jar (stored_name way name)))) read
way_text s ways.Plain name read named h = plain_text s.moment s.ring name _ read h
way_text s ways.Host name read named h = plain_text s.moment s.ring (stored_name ways.Host name) _ read h
way_text s ways.Secure name read named h = plain_text s.moment s.ring (stored_name ways.Secure name) _ read h
way_text s ways.Signed name read named h =
    signed_text s.moment s.ring name (view s.jar name) h.0 read h.1 h.2
way_text s ways.Sealed name read named h =
    sealed_text s.moment s.ring name (view s.jar name) h.0 read (named name) h.1 h.2

-- of a value until a moment: the dated text that is given, and what is read of that
abbrev pub ReadsDated : DateTime → Ring → EndingWay → List ℕ → Option (List ℕ) → Option (List ℕ × ℕ) → Type 0
ReadsDated now ring way name text read = (given : Option (List ℕ × ℕ)) × ReadsText now ring (Until way) name text given
    × MatchOption given (read ≡ None) (λ g. IsReadBefore (civil_nanos now) g.0 g.1 read)

ending_text : (s : Ringed) (way : EndingWay) (name : List ℕ) (o : Option Seen) (read : Option (List ℕ × ℕ))
    → MatchOption o (read ≡ None)
    (λ stored. Rattle.cookie_client.specs.Ending.ReadsUntil way s.moment s.ring name stored.cookie.value read)
    → ReadsDated s.moment s.ring way name (value_in (record_in o)) read
ending_text s way name None read h = (None, refl, h)
ending_text s way name (Some x) read h = h

pub until_text : (s : Ringed) (way : EndingWay) (name : List ℕ) (read : Option (List ℕ × ℕ))
    → ReadsEnding s way name read
    → ReadsDated s.moment s.ring way name (value_in (record_in (view s.jar name))) read
until_text s way name read h = ending_text s way name (view s.jar name) read h
