-- Sessions on rings: what they refuse and set until a moment, and that one of one key is the session with that key.
use Rattle.std.proofs.Common.{◌≡◌, ◌∙◌, ◌↔◌, Bool, true, false, ℕ, List, [], ◌∷◌, Option, Some, None, Result, Ok}
use Rattle.std.proofs.Common.{Err, OnOk, MatchOption, refl, ap, sym, subst, if◌then◌else◌}
use Rattle.std.specs.Prelude.{⊤, IsErr, IsErrAnd, IsErrOf}
use Rattle.std.specs.Option.{option_map}
use Rattle.jiff.specs.Types.{DateTime}
use Rattle.cookie_text.specs.Normal.{is_short_year}
use Rattle.cookie_text.specs.Record.{Record, Seen}
use Rattle.cookie_text.specs.declared.expiration.Expiration.{Expiration}
use Rattle.cookie.specs.Jar.{view}
use Rattle.cookie.specs.KeyRing.{Ring, ReadsFoundUnder, alone, without_place}
use Rattle.cookie.specs.Reading.{ReadsFound, IsSigned, IsSealed}
use Rattle.cookie.specs.RingLaws.{IsThatKey}
use Rattle.cookie.specs.declared.secure.private_error.PrivateError.{PrivateError}
use Rattle.cookie.specs.declared.secure.private_error.PrivateError.TheVariants as jars
use Rattle.cookie_client.specs.Errors.{error_of}
use Rattle.cookie_client.specs.Jar.{Keyed, Sets, record_in, value_in}
use Rattle.cookie_client.specs.RingSession.{EndsAt, IsKeptWith, IsThatSession, IsUntilError, Ringed, SetsUntil, at_0}
use Rattle.cookie_client.specs.RingSession.{is_ending_too_long, until_refusal, value_alone, value_placed}
use Rattle.cookie_client.specs.Ways.{refusal_of, then_long}
use Rattle.cookie_client.specs.declared.ending.EndingWay.{EndingWay}
use Rattle.cookie_client.specs.declared.outcome.SessionError.{SessionError}
use Rattle.cookie_client.specs.declared.outcome.SessionError.TheVariants.{EmptyName, Year, TooLong, Rng, OutOfMemory}
use Rattle.cookie_client.specs.declared.way.Way.TheVariants.{Plain, Host, Secure, Signed, Sealed}

-- ---- what is refused

-- a refusal before the generator is asked
abbrev IsEarly : SessionError → Type 0
IsEarly EmptyName = ⊤
IsEarly Year = ⊤
IsEarly TooLong = ⊤
IsEarly Rng = ⊥
IsEarly OutOfMemory = ⊥

early_if : (short long : Bool) (e : SessionError) → then_long (if short then Some Year else None) long ≡ Some e
    → IsEarly e
early_if true long e is = let same : Year ≡ e = cc is in subst IsEarly same tt
early_if false true e is = let same : TooLong ≡ e = cc is in subst IsEarly same tt
early_if false false e is = let no : ⊥ = cc is in absurd no

early : (name : List ℕ) (end : Option Expiration) (long : Bool) (e : SessionError)
    → then_long (refusal_of name end) long ≡ Some e → IsEarly e
early [] end long e is = let same : EmptyName ≡ e = cc is in subst IsEarly same tt
early (b ∷ bs) end long e is = early_if (is_short_year end) long e is

pub refused_until : (way : EndingWay) (c : Record) (e : SessionError) → until_refusal way c ≡ Some e
    → IsUntilError way c e
refused_until way c EmptyName is = is
refused_until way c Year is = is
refused_until way c TooLong is = is
refused_until way c Rng is = absurd (early c.name c.expires (is_ending_too_long way c.name c.value) Rng is)
refused_until way c OutOfMemory is =
    absurd (early c.name c.expires (is_ending_too_long way c.name c.value) OutOfMemory is)

memory_of : (e : PrivateError) → OutOfMemory ≡ error_of e → e ≡ jars.OutOfMemory
memory_of jars.TooLong is = let no : ⊥ = cc is in absurd no
memory_of jars.Rng is = let no : ⊥ = cc is in absurd no
memory_of jars.OutOfMemory is = refl

-- what holds where a jar's call met want of memory holds where a session says so of it
pub asked_of : {A B : Type 0} (r : Result A SessionError) (s : Result B PrivateError) (e : PrivateError) (P : Type 0)
    → IsErr r × IsErrAnd r (λ k. k ≡ error_of e) → s ≡ Err e → (IsErrOf s jars.OutOfMemory → P)
    → IsErrOf r OutOfMemory → P
asked_of r s e P gives was f is =
    let of : OutOfMemory ≡ error_of e = subst (λ q. IsErrAnd q (λ k. k ≡ error_of e)) is gives.1 in
    f (was ∙ ap Err (memory_of e of))

-- ---- what is set

pub sets_until : {E : Type 0} (r : Result (Unit {0}) E) (May : List ℕ → Type 0) (session left : Keyed) (ring : Ring)
    (moment : DateTime) (old : Ringed) (way : EndingWay) (s ending kept : Seen) (until : DateTime)
    → record { ring = ring; moment = moment; jar = session.jar } ≡ old → session.key ≡ ring.current
    → EndsAt s until ending → until_refusal way ending.cookie ≡ None → IsKeptWith May ring.current way ending until kept
    → OnOk r (Sets (λ nonce. ⊥) session Plain kept left)
    → OnOk r (SetsUntil May old way s until (record { ring = ring; moment = moment; jar = left.jar }))
sets_until (Ok x) May session left ring moment old way s ending kept until is key ends accepted keeps sets =
    let before : session ≡ record { key = ring.current; jar = session.jar } =
    (λ i. record { key = key i; jar = session.jar }) in
    let after : left ≡ record { key = ring.current; jar = left.jar } =
    (λ i. record { key = (sets.key_is ∙ key) i; jar = left.jar }) in
    let end : Keyed = record { key = ring.current; jar = left.jar } in
    let new : Ringed = record { ring = ring; moment = moment; jar = left.jar } in
    let moved = subst (λ (k : Keyed). Sets (λ nonce. ⊥) k Plain kept end) before
    (subst (λ (k : Keyed). Sets (λ nonce. ⊥) session Plain kept k) after sets) in
    subst (λ (o : Ringed). SetsUntil May o way s until new) is (record {
      ending = ending;
      ends = ends;
      accepted = accepted;
      kept = kept;
      is_kept = keeps;
      parts = (refl, refl);
      sets = moved;
    })
sets_until (Err e) May session left ring moment old way s ending kept until is key ends accepted keeps sets = tt

-- ---- a ring of one key

abbrev IsAt0 : Option (List ℕ × ℕ) → Type 0
IsAt0 read = MatchOption read (Unit {0}) (λ r. r.1 ≡ 0)

plain_iff : (value : Option (List ℕ)) (read : Option (List ℕ × ℕ))
    → (read ≡ at_0 value) ↔ ((value_alone read ≡ value) × IsAt0 read)
plain_iff None None = (λ e. (refl, tt), λ h. refl)
plain_iff None (Some r) = (
  λ e. let no : ⊥ = cc e in absurd no,
  λ h. let e = h.0 in let no : ⊥ = cc e in absurd no,
)
plain_iff (Some v) None = (
  λ e. let no : ⊥ = cc e in absurd no,
  λ h. let e = h.0 in let no : ⊥ = cc e in absurd no,
)
plain_iff (Some v) (Some r) = (
  λ e. let same : r ≡ (v, 0) = cc e in (ap value_alone e, ap (λ (x : List ℕ × ℕ). x.1) same),
  λ h. let e = h.0 in let same : r.0 ≡ v = cc e in (λ i. Some (same i, h.1 i)),
)

alone_of : (f : Option (Seen × ℕ)) → value_alone (value_placed f) ≡ value_in (record_in (without_place f))
alone_of None = refl
alone_of (Some f) = refl

placed_at_0 : (f : Option (Seen × ℕ)) → MatchOption f (Unit {0}) (λ r. r.1 ≡ 0) → IsAt0 (value_placed f)
placed_at_0 None h = h
placed_at_0 (Some f) h = h

abbrev with_0 : Option Seen → Option (Seen × ℕ)
with_0 read = option_map (λ c. (c, 0)) read

without_0 : (r : Option Seen) → r ≡ without_place (with_0 r)
without_0 None = refl
without_0 (Some c) = refl

are_0 : (r : Option Seen) → MatchOption (with_0 r) (Unit {0}) (λ x. x.1 ≡ 0)
are_0 None = tt
are_0 (Some c) = refl

value_of_0 : (r : Option Seen) (read : Option (List ℕ × ℕ)) → value_alone read ≡ value_in (record_in r) → IsAt0 read
    → read ≡ value_placed (with_0 r)
value_of_0 None None e z = refl
value_of_0 None (Some x) e z = let no : ⊥ = cc e in absurd no
value_of_0 (Some c) None e z = let no : ⊥ = cc e in absurd no
value_of_0 (Some c) (Some x) e z = let same : x.0 ≡ c.cookie.value = cc e in (λ i. Some (same i, z i))

child_iff : (StandsFor : List ℕ → Seen → List ℕ → Type 0) → IsThatKey StandsFor → (key : List ℕ) (now : DateTime)
    (found : Option Seen) (read : Option (List ℕ × ℕ))
    → ((f : Option (Seen × ℕ)) × ReadsFoundUnder StandsFor now (alone key) found f × (read ≡ value_placed f))
    ↔ (((r : Option Seen) × ReadsFound (StandsFor key) found r × (value_alone read ≡ value_in (record_in r)))
    × IsAt0 read)
child_iff StandsFor that key now found read = (
  λ h. let law = (that key now found h.0).0 h.1 in (
    (without_place h.0, law.0, ap value_alone h.2 ∙ alone_of h.0),
    subst IsAt0 (sym h.2) (placed_at_0 h.0 law.1),
  ),
  λ h. (
    with_0 h.0.0,
    (that key now found (with_0 h.0.0)).1
        (subst (ReadsFound (StandsFor key) found) (without_0 h.0.0) h.0.1, are_0 h.0.0),
    value_of_0 h.0.0 read h.0.2 h.1,
  ),
)

pub that_session : IsThatKey IsSigned → IsThatKey IsSealed → IsThatSession
that_session signed sealed key now jar Plain name read = plain_iff _ read
that_session signed sealed key now jar Host name read = plain_iff _ read
that_session signed sealed key now jar Secure name read = plain_iff _ read
that_session signed sealed key now jar Signed name read = child_iff IsSigned signed key now (view jar name) read
that_session signed sealed key now jar Sealed name read = child_iff IsSealed sealed key now (view jar name) read
