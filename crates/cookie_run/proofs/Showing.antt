-- What a session shows of a site, and what it keeps.
use Rattle.std.proofs.Common.{◌≡◌, ℕ, Bool, true, false, cond, List, [], ◌∷◌, ◌++◌, sym}
use Rattle.std.proofs.Common.{refl, ap, ◌∙◌, subst, Option, Some, None}
use Rattle.std.specs.Prelude.{map, IfSome}
use Rattle.std.specs.List.{AllByRecursion}
use Rattle.std.specs.Str.{bytes_eq, IsUtf8}
use Rattle.std.specs.FinMap as finmap
use Rattle.cookie_text.specs.Printing.{encoded}
use Rattle.cookie_text.specs.Record.{Record, Seen}
use Rattle.cookie.specs.declared.delta.DeltaCookie.{DeltaCookie as Change}
use Rattle.cookie.specs.declared.delta.DeltaCookie.TheVariants.{Added}
use Rattle.cookie.specs.ByName.{HaveOwnNames as EntriesApart, value_in as entry_in}
use Rattle.cookie.specs.Jar.{Jar, overlaid, under_names, view, with_change}
use Rattle.cookie.specs.Prefix.{host_text, secure_text}
use Rattle.cookie.specs.Reading.{Reads, ReadsFound, IsSigned, IsSealed}
use Rattle.cookie.specs.Sealing.{IsSealing}
use Rattle.cookie.specs.Signing.{signing}
use Rattle.cookie_client.specs.Jar.{Keyed, IsKeptAs, ReadsIn, Sets, sent, value_in, record_in, lines_of}
use Rattle.cookie_client.specs.declared.way.Way.{Way}
use Rattle.cookie_client.specs.declared.way.Way.TheVariants as ways
use Rattle.cookie_client.specs.declared.command.Reading.{Reading}
use Rattle.cookie_client.specs.declared.command.Reading.TheVariants.{Value, Refused}
use Rattle.cookie_client.specs.declared.outcome.SessionError.TheVariants.{EmptyName}
use Rattle.cookie_run.specs.Site.{View, Entry, with_at, entry_of}
use Rattle.cookie_client.specs.Ways.{Kind, Plain, Signed, Sealed, kind_of, stored_name}
use Rattle.cookie_run.specs.Site.{IsReadAt, GetOn}
use Rattle.cookie_run.specs.Brought.{StandsAs, Matches}
use Rattle.cookie_client.specs.Steps.{GetTells}
use Rattle.cookie_client.specs.PlainSets.{any_nonce}
use Rattle.cookie_run.specs.Readings.{IsAnswer}
use Rattle.cookie_client.proofs.Texts.{same_text}
use Rattle.cookie_client.proofs.Sessions.{get_insert}
use Rattle.cookie_run.proofs.Records.{found_in, AreApart}
use Rattle.cookie_client.proofs.SessionTexts.{kept_named}

-- a text is the signing and a sealing of one value at most, and signings and sealings of texts are texts, as the crate
-- of jars promises it
pub record OnlyOne (key : List ℕ) : Type 0 where
  pub signed : (v w : List ℕ) → signing key v ≡ signing key w → v ≡ w
  pub sealed : (name v w text : List ℕ) → IsSealing key name v text → IsSealing key name w text → v ≡ w
  pub signed_text : (k value : List ℕ) → IsUtf8 value → IsUtf8 (signing k value)
  pub sealed_text : (k name value text : List ℕ) → IsSealing k name value text → IsUtf8 text

-- a session shows what a request reads, under the names that count
pub record Shows (counts : List ℕ → Bool) (key : List ℕ) (session : Keyed) (seen : View) : Type 0 where
  pub key_is : session.key ≡ key
  pub named : (q : List ℕ) → IfSome (view session.jar q) (λ s. s.cookie.name ≡ q)
  pub each : (q : List ℕ) → counts q ≡ true → Matches key q (value_in (record_in (view session.jar q))) (seen q)

pub seen_named : (o : Option Seen) (q : List ℕ) → IfSome (record_in o) (λ c. c.name ≡ q)
    → IfSome o (λ s. s.cookie.name ≡ q)
seen_named None q h = tt
seen_named (Some s) q h = h

pub kept_stands : (May : List ℕ → Type 0) (key : List ℕ) (way : Way) (s kept : Seen) → IsUtf8 s.cookie.value
    → IsKeptAs May key way s kept → StandsAs key (stored_name way s.cookie.name)
    (kind_of way) s.cookie.value kept.cookie.value
kept_stands May key ways.Plain s kept utf8 k = ap (λ (x : Seen). x.cookie.value) k
kept_stands May key ways.Host s kept utf8 k = ap (λ (x : Seen). x.cookie.value) k
kept_stands May key ways.Secure s kept utf8 k = ap (λ (x : Seen). x.cookie.value) k
kept_stands May key ways.Signed s kept utf8 k = ap (λ (x : Seen). x.cookie.value) k
kept_stands May key ways.Sealed s kept utf8 k = (
  utf8,
  subst (IsSealing key s.cookie.name s.cookie.value) (sym (ap (λ (x : Seen). x.cookie.value) k.2.3))
      (k.0, k.2.1, k.2.2),
)

overlaid_cond : (b : Bool) (kept : Seen) (o : Option Change) (p : Option Seen)
    → overlaid (cond b (Some (Added kept)) o) p ≡ cond b (Some kept) (overlaid o p)
overlaid_cond true kept o p = refl
overlaid_cond false kept o p = refl

pub view_change : (jar : Jar) (kept : Seen) (q : List ℕ) → view (with_change jar (Added kept)) q ≡ cond
    (bytes_eq q kept.cookie.name) (Some kept) (view jar q)
view_change jar kept q =
    ap (λ o. overlaid o (finmap.get jar.originals q)) (get_insert jar.changes kept.cookie.name (Added kept) q)
    ∙ overlaid_cond (bytes_eq q kept.cookie.name) kept (finmap.get jar.changes q) (finmap.get jar.originals q)

matches_cond : (key q : List ℕ) (b : Bool) (kept : Seen) (o : Option Seen) (entry : Entry) (e : Option Entry)
    → (b ≡ true → StandsAs key q entry.kind entry.value kept.cookie.value)
    → Matches key q (value_in (record_in o)) e → Matches key q (value_in (record_in (cond b (Some kept) o)))
    (cond b (Some entry) e)
matches_cond key q true kept o entry e h g = h refl
matches_cond key q false kept o entry e h g = g

pub named_cond : (q : List ℕ) (b : Bool) (kept : Seen) (o : Option Seen) → (b ≡ true → kept.cookie.name ≡ q)
    → IfSome o (λ s. s.cookie.name ≡ q) → IfSome (cond b (Some kept) o) (λ s. s.cookie.name ≡ q)
named_cond q true kept o h g = h refl
named_cond q false kept o h g = g

kept_shows : (counts : List ℕ → Bool) (key : List ℕ) (old new : Keyed) (seen : View) (way : Way) (s kept : Seen)
    → Shows counts key old seen
    → new.key ≡ old.key → new.jar ≡ with_change old.jar (Added kept)
    → kept.cookie.name ≡ stored_name way s.cookie.name → StandsAs key (stored_name way s.cookie.name)
    (kind_of way) s.cookie.value kept.cookie.value
    → Shows counts key new (with_at seen (stored_name way s.cookie.name) (Some (entry_of way s.cookie)))
kept_shows counts key old new seen way s kept h same_key changed name stands =
    let n : List ℕ = stored_name way s.cookie.name in
    let is : (q : List ℕ) → view new.jar q ≡ cond (bytes_eq q n) (Some kept) (view old.jar q) =
    λ q. ap (λ j. view j q) changed ∙ (view_change old.jar kept q
    ∙ ap (λ m. cond (bytes_eq q m) (Some kept) (view old.jar q)) name) in
    record {
      key_is = same_key ∙ h.key_is;
      named = λ q. subst (λ (o : Option Seen). IfSome o (λ x. x.cookie.name ≡ q)) (sym (is q))
          (named_cond q (bytes_eq q n) kept (view old.jar q) (λ e. name ∙ sym (same_text q n e)) (h.named q));
      each = λ q c. subst (λ (o : Option Seen). Matches key q (value_in (record_in o))
          (cond (bytes_eq q n) (Some (entry_of way s.cookie)) (seen q))) (sym (is q))
          (matches_cond key q (bytes_eq q n) kept (view old.jar q) (entry_of way s.cookie) (seen q)
          (λ e. subst (λ (m : List ℕ). StandsAs key m (kind_of way) s.cookie.value kept.cookie.value)
          (sym (same_text q n e)) stands) (h.each q c));
    }

pub set_shows : (counts : List ℕ → Bool) (key : List ℕ) (old new : Keyed) (seen : View) (way : Way) (s : Seen)
    → Shows counts key old seen
    → Sets any_nonce old way s new → Shows counts key new (with_at seen (stored_name way s.cookie.name)
    (Some (entry_of way s.cookie)))
set_shows counts key old new seen way s h sets =
    let kept = subst (λ (k : List ℕ). IsKeptAs any_nonce k way (sent s) sets.keeps.0) h.key_is sets.keeps.1 in
    kept_shows counts key old new seen way s sets.keeps.0 h sets.key_is sets.keeps.2
    (kept_named any_nonce key way (sent s) sets.keeps.0 kept)
    (kept_stands any_nonce key way (sent s) sets.keeps.0 sets.value kept)

-- ---- a get

plain_read : (key q : List ℕ) (o : Option Seen) (e : Option Entry) (v : Option (List ℕ))
    → Matches key q (value_in (record_in o)) e → v ≡ value_in (record_in o) → IsReadAt Plain e v
plain_read key q None None v h is = is
plain_read key q None (Some e) v h is = absurd h
plain_read key q (Some s) None v h is = absurd h
plain_read key q (Some s) (Some e) v h is = λ kind. is ∙ ap (λ x. Some x)
    (subst (λ (k : Kind). StandsAs key q k e.value s.cookie.value) kind h)

-- what stands for one value is read as that value
only_read : (StandsFor : List ℕ → Type 0) (s : Seen) (value : List ℕ) (read : Option Seen) → StandsFor value
    → ((v : List ℕ) → StandsFor v → v ≡ value) → Reads StandsFor s read → value_in (record_in read) ≡ Some value
only_read StandsFor s value None holds only reads = absurd (reads value holds)
only_read StandsFor s value (Some r) holds only reads = ap (λ (x : Seen). Some x.cookie.value) reads.2
    ∙ ap (λ x. Some x) (only reads.0 reads.1)

signed_read : (key q : List ℕ) (o : Option Seen) (e : Option Entry) (v : Option (List ℕ)) (read : Option Seen)
    → OnlyOne key → Matches key q (value_in (record_in o)) e → ReadsFound (IsSigned key) o read
    → v ≡ value_in (record_in read) → IsReadAt Signed e v
signed_read key q None None v read law h found is = is ∙ ap (λ o. value_in (record_in o)) found
signed_read key q None (Some e) v read law h found is = absurd h
signed_read key q (Some s) None v read law h found is = absurd h
signed_read key q (Some s) (Some e) v read law h found is = λ kind.
    let stands : s.cookie.value ≡ signing key e.value = subst
    (λ (k : Kind). StandsAs key q k e.value s.cookie.value) kind h in
    is ∙ only_read (IsSigned key s) s e.value read stands (λ w other. law.signed w e.value (sym other ∙ stands)) found

sealed_read : (key q : List ℕ) (o : Option Seen) (e : Option Entry) (v : Option (List ℕ)) (read : Option Seen)
    → OnlyOne key → IfSome o (λ s. s.cookie.name ≡ q) → Matches key q (value_in (record_in o)) e
    → ReadsFound (IsSealed key) o read → v ≡ value_in (record_in read) → IsReadAt Sealed e v
sealed_read key q None None v read law name h found is = is ∙ ap (λ o. value_in (record_in o)) found
sealed_read key q None (Some e) v read law name h found is = absurd h
sealed_read key q (Some s) None v read law name h found is = absurd h
sealed_read key q (Some s) (Some e) v read law name h found is = λ kind.
    let stands : IsUtf8 e.value × IsSealing key q e.value s.cookie.value = subst
    (λ (k : Kind). StandsAs key q k e.value s.cookie.value) kind h in
    let mine : IsSealed key s e.value = (
      stands.0,
      subst (λ (n : List ℕ). IsSealing key n e.value s.cookie.value)
          (sym name) stands.1,
    ) in
    is ∙ only_read (IsSealed key s) s e.value read mine (λ w other. law.sealed s.cookie.name w e.value s.cookie.value
    other.1 mine.1) found

way_read : (counts : List ℕ → Bool) (key : List ℕ) (session : Keyed) (seen : View) (way : Way) (name : List ℕ)
    (v : Option (List ℕ)) → OnlyOne key → Shows counts key session seen → ReadsIn session way name v
    → counts (stored_name way name) ≡ true → IsReadAt (kind_of way) (seen (stored_name way name)) v
way_read counts key session seen ways.Plain name v law h reads c =
    plain_read key name (view session.jar name) (seen name) v (h.each name c) reads
way_read counts key session seen ways.Host name v law h reads c =
    let n : List ℕ = host_text ++ name in plain_read key n (view session.jar n) (seen n) v (h.each n c) reads
way_read counts key session seen ways.Secure name v law h reads c =
    let n : List ℕ = secure_text ++ name in plain_read key n (view session.jar n) (seen n) v (h.each n c) reads
way_read counts key session seen ways.Signed name v law h reads c =
    signed_read key name (view session.jar name) (seen name) v reads.0 law (h.each name c)
    (subst (λ (k : List ℕ). ReadsFound (IsSigned k) (view session.jar name) reads.0) h.key_is reads.1) reads.2
way_read counts key session seen ways.Sealed name v law h reads c =
    sealed_read key name (view session.jar name) (seen name) v reads.0 law (h.named name) (h.each name c)
    (subst (λ (k : List ℕ). ReadsFound (IsSealed k) (view session.jar name) reads.0) h.key_is reads.1) reads.2

-- a get reads what the view has, where the name that it reads counts, and has its answer
abbrev pub GetIn : (List ℕ → Bool) → View → Way → List ℕ → List Reading → Type 0
GetIn counts view way name told =
    (counts (stored_name way name) ≡ true → GetOn view way name told)
    × ((answer : Reading) × (told ≡ answer ∷ []) × IsAnswer way name answer)

pub get_on : (counts : List ℕ → Bool) (key : List ℕ) (session : Keyed) (seen : View) (way : Way) (name : List ℕ)
    (told : List Reading) → OnlyOne key → Shows counts key session seen → GetTells session way name told
    → GetIn counts seen way name told
get_on counts key session seen way [] told law h tells =
    ((λ c. tells), (Refused EmptyName, tells, (refl, refl)))
get_on counts key session seen way (b ∷ bs) told law h tells = (
  (λ c. (tells.0, tells.1, way_read counts key session seen way (b ∷ bs) tells.0 law h tells.2 c)),
  (Value way (b ∷ bs) tells.0, tells.1, (refl, refl)),
)

-- ---- the cookies of a delta

abbrev pub records : List Seen → List Record
records cookies = map (λ s. s.cookie) cookies

pub lines_are : (cookies : List Seen) → lines_of cookies ≡ map encoded (records cookies)
lines_are [] = refl
lines_are (s ∷ ss) = ap (λ ls. encoded s.cookie ∷ ls) (lines_are ss)

record_cond : (b : Bool) (s : Seen) (o : Option Seen) → record_in (cond b (Some s) o) ≡ cond b (Some s.cookie)
    (record_in o)
record_cond true s o = refl
record_cond false s o = refl

pub found_records : (cookies : List Seen) (q : List ℕ) → found_in (records cookies) q ≡ record_in
    (entry_in (under_names cookies) q)
found_records [] q = refl
found_records (s ∷ ss) q =
    ap (cond (bytes_eq q s.cookie.name) (Some s.cookie)) (found_records ss q)
    ∙ sym (record_cond (bytes_eq q s.cookie.name) s (entry_in (under_names ss) q))

pub apart_records : (cookies : List Seen) → EntriesApart (under_names cookies) → AreApart (records cookies)
apart_records [] h = tt
apart_records (s ∷ ss) h = (found_records ss s.cookie.name ∙ ap record_in h.0, apart_records ss h.1)

pub all_records : (P : Record → Type 0) (cookies : List Seen) → AllByRecursion (λ s. P s.cookie) cookies
    → AllByRecursion P (records cookies)
all_records P [] h = tt
all_records P (s ∷ ss) h = (h.0, all_records P ss h.1)
