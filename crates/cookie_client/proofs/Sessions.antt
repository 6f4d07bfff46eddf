-- What a session does to its jar.
use Rattle.std.proofs.Common.{◌≡◌, ℕ, ◌<◌, Bool, true, false, cond, List, [], ◌∷◌, ◌++◌, length, sym, refl, ap, ◌∙◌}
use Rattle.std.proofs.Common.{subst, ⊎_elim, arith, Option, Some, None, append-nil}
use Rattle.std.specs.Prelude.{codes, IfSome, MatchOption, option_map, ◌==◌}
use Rattle.std.specs.Int.{int_min}
use Rattle.std.specs.List.{AllByRecursion}
use Rattle.std.specs.Option.{option_or, option_to_list}
use Rattle.std.specs.Str.{bytes_eq}
use Rattle.std.specs.FinMap as finmap
use Rattle.std.specs.FinMap.{get-insert, get-remove}
use Rattle.std.specs.Ordering.{nat_cmp}
use Rattle.std.specs.Cmp.Lexicographic.{slice_cmp, texts_ties}
use Rattle.std.proofs.lemmas.Cmp.{nat_list_cmp_total}
use Rattle.std.proofs.lemmas.Bool.{cases_Bool, cond-true, cond-false}
use Rattle.std.proofs.lemmas.List.Elements.{All-from_recursion}
use Rattle.jiff.specs.Types.{DateTime}
use Rattle.jiff_core.specs.DateTime.{civil_nanos}
use Rattle.jiff_zoned.proofs.SameLemmas.{same_datetime}
use Rattle.cookie_text.specs.declared.expiration.Expiration.{Expiration}
use Rattle.cookie_text.specs.declared.expiration.Expiration.TheVariants.{DateTime as At, Session}
use Rattle.cookie_text.specs.Normal.{IsReadable, IsPiece, is_short_year}
use Rattle.cookie_text.specs.Pieces.{semicolon}
use Rattle.cookie_text.specs.Record.{Record, Seen, bare, unsliced}
use Rattle.cookie_text.specs.Setting.{IsKept, MakesRemoval, latest_end}
use Rattle.cookie.specs.declared.delta.DeltaCookie.{DeltaCookie as Change}
use Rattle.cookie.specs.declared.delta.DeltaCookie.TheVariants.{Removed}
use Rattle.cookie.specs.ByName.{ByName, Lists, HaveOwnNames as EntriesApart, value_in as entry_in}
use Rattle.cookie.specs.Jar.{Jar, cookie_of as cookie_in, delta, under_names, with_original, with_change}
use Rattle.cookie.specs.Jar.{without_change, Removes, empty}
use Rattle.cookie_client.specs.declared.outcome.SessionError.{SessionError}
use Rattle.cookie_client.specs.declared.outcome.SessionError.TheVariants.{Year}
use Rattle.cookie_client.specs.declared.way.Way.{Way}
use Rattle.cookie_client.specs.declared.way.Way.TheVariants.{Plain, Host, Secure, Signed, Sealed}
use Rattle.cookie_client.specs.Jar.{Holds, IsKeptAs, last_in, record_in, sent, taken}
use Rattle.cookie.specs.Prefix.{host_text, secure_text}
use Rattle.cookie_client.specs.Ways.{refusal_of, stored_name, then_long}
use Rattle.cookie_client.proofs.ReadBack.{trim_graphic}
use Rattle.cookie_client.proofs.Texts.{same_text, text_is, some_is_not_none}

-- ---- maps by name

pub none_at : {X : Type 0} (q : List ℕ) → finmap.get (finmap.empty {X = X} {R = slice_cmp nat_cmp}) q ≡ None
none_at q = finmap.get-empty (slice_cmp nat_cmp) q

pub get_insert : {X : Type 0} (m : ByName X) (k : List ℕ) (c : X) (q : List ℕ)
    → finmap.get (finmap.insert m k c) q ≡ cond (bytes_eq q k) (Some c) (finmap.get m q)
get_insert m k c q = get-insert nat_list_cmp_total m k c q ∙ ap (λ b. cond b (Some c) (finmap.get m q))
    (sym (texts_ties q k))

pub get_remove : {X : Type 0} (m : ByName X) (k q : List ℕ)
    → finmap.get (finmap.remove m k) q ≡ cond (bytes_eq q k) None
    (finmap.get m q)
get_remove m k q = get-remove nat_list_cmp_total m k q ∙ ap (λ b. cond b None (finmap.get m q)) (sym (texts_ties q k))

-- ---- a session opens on the cookies of its header

or_cond : {A : Type 0} (b : Bool) (k : A) (o p : Option A) → option_or (cond b (Some k) o) p ≡ cond b (Some k)
    (option_or o p)
or_cond true k o p = refl
or_cond false k o p = refl

last_push : (cs : List Record) (k : Record) (q : List ℕ) → last_in (cs ++ k ∷ []) q ≡ cond (bytes_eq q k.name) (Some k)
    (last_in cs q)
last_push [] k q = refl
last_push (c ∷ cs) k q =
    ap (λ o. option_or o (cond (bytes_eq q c.name) (Some c) None)) (last_push cs k q)
    ∙ or_cond (bytes_eq q k.name) k (last_in cs q) (cond (bytes_eq q c.name) (Some c) None)

record_cond : (b : Bool) (s : Seen) (o : Option Seen) → record_in (cond b (Some s) o) ≡ cond b (Some s.cookie)
    (record_in o)
record_cond true s o = refl
record_cond false s o = refl

pub holds_none : (jar : Jar) → jar ≡ empty → Holds [] jar
holds_none jar is = subst (Holds []) (sym is) (record { originals = λ q. ap record_in (none_at q); changes = refl })

holds_push : (cs : List Record) (jar : Jar) (k : Seen) → Holds cs jar
    → Holds (cs ++ k.cookie ∷ []) (with_original jar k)
holds_push cs jar k h = record {
  originals = λ q. ap record_in (get_insert jar.originals k.cookie.name k q)
      ∙ (record_cond (bytes_eq q k.cookie.name) k (finmap.get jar.originals q)
      ∙ (ap (cond (bytes_eq q k.cookie.name) (Some k.cookie)) (h.originals q) ∙ sym (last_push cs k.cookie q)));
  changes = h.changes;
}

-- a piece that reads
pub holds_next : (cs : List Record) (jar new : Jar) (o : Option Seen) (k : Seen) → o ≡ Some k → Holds cs jar
    → new ≡ with_original jar k → Holds (cs ++ option_to_list (record_in o)) new
holds_next cs jar new o k is holds put =
    subst (λ (x : Option Seen). Holds (cs ++ option_to_list (record_in x)) new) (sym is)
    (subst (Holds (cs ++ k.cookie ∷ [])) (sym put) (holds_push cs jar k holds))

-- a piece that doesn't
pub holds_past : (cs : List Record) (jar new : Jar) (o : Option Seen) → o ≡ None → Holds cs jar → new ≡ jar
    → Holds (cs ++ option_to_list (record_in o)) new
holds_past cs jar new o is holds stays =
    subst (λ (x : Option Seen). Holds (cs ++ option_to_list (record_in x)) new) (sym is)
    (subst (λ ds. Holds ds new) (sym (append-nil cs)) (subst (Holds cs) (sym stays) holds))

-- each change of a jar is so
abbrev pub EachChange : (Record → Type 0) → Jar → Type 0
EachChange Is jar = (name : List ℕ) (change : Change) → finmap.get jar.changes name ≡ Some change
    → Is (cookie_in change).cookie

abbrev pub IsReadableJar : Jar → Type 0
IsReadableJar jar = EachChange IsReadable jar

pub opened_each : (Is : Record → Type 0) (cs : List Record) (jar : Jar) → Holds cs jar → EachChange Is jar
opened_each Is cs jar h name change is =
    absurd (some_is_not_none change (sym is ∙ (ap (λ m. finmap.get m name) h.changes ∙ none_at name)))

-- ---- what is sent is fit to be read back

pub then_none : (o : Option SessionError) (long : Bool) → then_long o long ≡ None → (o ≡ None) × (long ≡ false)
then_none (Some e) long h = absurd (some_is_not_none e h)
then_none None true h = absurd (some_is_not_none _ h)
then_none None false h = (refl, refl)

pub named : (n : List ℕ) (end : Option Expiration) → refusal_of n end ≡ None → 0 < length n
named [] end e = absurd (cc)
named (b ∷ bs) end e = omega arith

lasting : (n : List ℕ) (end : Option Expiration) → refusal_of n end ≡ None → is_short_year end ≡ false
lasting [] end e = absurd (cc)
lasting (b ∷ bs) end e =
    ⊎_elim
    (λ (s : is_short_year end ≡ true). absurd (some_is_not_none Year (sym (cond-true _ _ _ s) ∙ e)))
    (λ (s : is_short_year end ≡ false). s)
    (cases_Bool (is_short_year end))

root_piece : IsPiece (codes "/")
root_piece = record {
  trimmed = trim_graphic (codes "/") (record { low = omega arith; high = omega arith }, tt);
  clean = All-from_recursion (λ b. (b == semicolon) ≡ false) (codes "/") (refl, tt);
}

sent_readable : (s : Seen) → refusal_of s.cookie.name s.cookie.expires ≡ None → IsReadable (sent s).cookie
sent_readable s e = record {
  name = named s.cookie.name s.cookie.expires e;
  path = root_piece;
  domain = tt;
  expires = lasting s.cookie.name s.cookie.expires e;
}

-- under another name that isn't empty, with another value
renamed : (r : Record) (n : List ℕ) → 0 < length n → IsReadable r → IsReadable (record r { name = n })
renamed r n some h = record { name = some; path = h.path; domain = h.domain; expires = h.expires }

revalued : (r : Record) (v : List ℕ) → IsReadable r → IsReadable (record r { value = v })
revalued r v h = record { name = h.name; path = h.path; domain = h.domain; expires = h.expires }

pub kept_readable : (May : List ℕ → Type 0) (key : List ℕ) (way : Way) (s kept : Seen)
    → refusal_of s.cookie.name s.cookie.expires ≡ None → IsKeptAs May key way (sent s) kept → IsReadable kept.cookie
kept_readable May key Plain s kept e k = subst (λ (x : Seen). IsReadable x.cookie) (sym k) (sent_readable s e)
kept_readable May key Host s kept e k = subst (λ (x : Seen). IsReadable x.cookie) (sym k)
    (renamed (sent s).cookie (host_text ++ s.cookie.name) (omega arith) (sent_readable s e))
kept_readable May key Secure s kept e k = subst (λ (x : Seen). IsReadable x.cookie) (sym k)
    (renamed (sent s).cookie (secure_text ++ s.cookie.name) (omega arith) (sent_readable s e))
kept_readable May key Signed s kept e k = subst (λ (x : Seen). IsReadable x.cookie) (sym k)
    (revalued (sent s).cookie _ (sent_readable s e))
kept_readable May key Sealed s kept e k = subst (λ (x : Seen). IsReadable x.cookie) (sym k.2.3)
    (revalued (sent s).cookie k.2.0 (sent_readable s e))

some_same : {A : Type 0} (c d : A) → Some c ≡ Some d → c ≡ d
some_same c d e = cc

pub changed_each : (Is : Record → Type 0) (old : Jar) (n : List ℕ) (change : Change) → EachChange Is old
    → Is (cookie_in change).cookie → EachChange Is (record old { changes = finmap.insert old.changes n change })
changed_each Is old n change all one q other is =
    let found : cond (bytes_eq q n) (Some change) (finmap.get old.changes q) ≡ Some other = sym
    (get_insert old.changes n change q) ∙ is in
    ⊎_elim
    (λ (e : bytes_eq q n ≡ true). subst (λ (x : Change). Is (cookie_in x).cookie)
    (some_same change other (sym (cond-true _ _ _ e) ∙ found)) one)
    (λ (e : bytes_eq q n ≡ false). all q other (sym (cond-false _ _ _ e) ∙ found))
    (cases_Bool (bytes_eq q n))

removed_each : (Is : Record → Type 0) (old : Jar) (n : List ℕ) → EachChange Is old
    → EachChange Is (without_change old n)
removed_each Is old n all q other is =
    let found : cond (bytes_eq q n) None (finmap.get old.changes q) ≡ Some other = sym (get_remove old.changes n q)
    ∙ is in
    ⊎_elim
    (λ (e : bytes_eq q n ≡ true). absurd (some_is_not_none other (sym found ∙ cond-true _ _ _ e)))
    (λ (e : bytes_eq q n ≡ false). all q other (sym (cond-false _ _ _ e) ∙ found))
    (cases_Bool (bytes_eq q n))

-- ---- removals

kept_same : (e f : DateTime) (k l : Expiration) → civil_nanos e ≡ civil_nanos f → IsKept (At e) k → IsKept (At f) l
    → k ≡ l
kept_same e f (At k) (At l) same hk hl = ap (λ d. At d) (same_datetime k l
    (hk ∙ (ap (λ n. int_min n latest_end) same ∙ sym hl)))
kept_same e f (At k) Session same hk hl = absurd hl
kept_same e f Session l same hk hl = absurd hk

-- every removal at one moment ends at one
one_end : (c d r q : Seen) (now : DateTime) → MakesRemoval c now r → MakesRemoval d now q
    → r.cookie.expires ≡ q.cookie.expires
one_end c d r q now hr hq =
    ap (λ (s : Seen). s.cookie.expires) hr.2.2
    ∙ (ap (λ k. Some k) (kept_same hr.0 hq.0 hr.2.0 hq.2.0 (hr.1 ∙ sym hq.1) hr.2.1 hq.2.1)
    ∙ sym (ap (λ (s : Seen). s.cookie.expires) hq.2.2))

-- the removal of a cookie that is sent
removal_readable : (c r d : Seen) (now : DateTime) (n : List ℕ) → 0 < length c.cookie.name
    → c.cookie.path ≡ Some (codes "/") → c.cookie.domain ≡ None
    → MakesRemoval c now r → MakesRemoval (unsliced (bare n [])) now d → refusal_of n d.cookie.expires ≡ None
    → IsReadable r.cookie
removal_readable c r d now n some path domain hr hd accepted =
    let ends : is_short_year r.cookie.expires ≡ false = ap (λ o. is_short_year o)
    (one_end c (unsliced (bare n [])) r d now hr hd) ∙ lasting n d.cookie.expires accepted in
    let named : r.cookie.name ≡ c.cookie.name = ap (λ (s : Seen). s.cookie.name) hr.2.2 in
    let placed : r.cookie.path ≡ Some (codes "/") = ap (λ (s : Seen). s.cookie.path) hr.2.2 ∙ path in
    let alone : r.cookie.domain ≡ None = ap (λ (s : Seen). s.cookie.domain) hr.2.2 ∙ domain in
    record {
      name = subst (λ (x : List ℕ). 0 < length x) (sym named) some;
      path = subst (λ (o : Option (List ℕ)). IfSome o IsPiece) (sym placed) root_piece;
      domain = rw alone tt;
      expires = ends;
    }

pub takes_each : (Is : Record → Type 0) (c : Seen) (now : DateTime) (old new : Jar) (o : Option Seen)
    → MatchOption o (new ≡ without_change old c.cookie.name) (λ _. (removal : Seen) × MakesRemoval c now removal
    × (new ≡ with_change old (Removed removal)))
    → ((removal : Seen) → MakesRemoval c now removal → Is removal.cookie) → EachChange Is old → EachChange Is new
takes_each Is c now old new None removes each all = subst (EachChange Is) (sym removes)
    (removed_each Is old c.cookie.name all)
takes_each Is c now old new (Some x) removes each all =
    subst (EachChange Is) (sym removes.2) (changed_each Is old removes.0.cookie.name (Removed removes.0) all
    (each removes.0 removes.1))

pub stored_named : (way : Way) (name : List ℕ) → 0 < length name → 0 < length (stored_name way name)
stored_named Plain name some = some
stored_named Host name some = omega arith
stored_named Secure name some = omega arith
stored_named Signed name some = some
stored_named Sealed name some = some

pub removal_reads : (way : Way) (name : List ℕ) (d r : Seen) (now : DateTime)
    → MakesRemoval (unsliced (bare name [])) now d → refusal_of name d.cookie.expires ≡ None
    → MakesRemoval (taken way name) now r → IsReadable r.cookie
removal_reads way name d r now hd e hr = removal_readable (taken way name) r d now name
    (stored_named way name (named name d.cookie.expires e)) refl refl hr hd e

pub taken_readable : (way : Way) (name : List ℕ) (d : Seen) (now : DateTime) (old new : Jar)
    → Removes old (taken way name) now new
    → MakesRemoval (unsliced (bare name [])) now d → refusal_of name d.cookie.expires ≡ None → IsReadableJar old
    → IsReadableJar new
taken_readable way name d now old new removes hd e all =
    takes_each IsReadable (taken way name) now old new (finmap.get old.originals (stored_name way name)) removes
    (λ r makes. removal_reads way name d r now hd e makes) all

-- ---- closing

-- in a list of names apart, a name past the first is another
behind : (c d : Seen) (cs : List Seen) (q : List ℕ) → entry_in (under_names cs) c.cookie.name ≡ None
    → entry_in (under_names cs) q ≡ Some d → bytes_eq q c.cookie.name ≡ false
behind c d cs q none some =
    ⊎_elim
    (λ same. absurd (some_is_not_none d (sym some ∙ (ap (entry_in (under_names cs)) (same_text q c.cookie.name same)
    ∙ none))))
    (λ e. e)
    (cases_Bool (bytes_eq q c.cookie.name))

-- what holds of each cookie that is found holds of each cookie
pub each_of_names : (P : Seen → Type 0) (cs : List Seen) → EntriesApart (under_names cs)
    → ((q : List ℕ) (s : Seen) → entry_in (under_names cs) q ≡ Some s → P s) → AllByRecursion P cs
each_of_names P [] apart h = tt
each_of_names P (c ∷ cs) apart h = (
  h c.cookie.name c (cond-true _ _ _ (text_is c.cookie.name c.cookie.name refl)),
  each_of_names P cs apart.1 (λ q d is. h q d (cond-false _ _ _ (behind c d cs q apart.0 is) ∙ is)),
)

pub of_change : (o : Option Change) (s : Seen) → option_map cookie_in o ≡ Some s → (change : Change) × (o ≡ Some change)
    × (cookie_in change ≡ s)
of_change None s e = absurd (some_is_not_none s (sym e))
of_change (Some change) s e = (change, refl, some_same (cookie_in change) s e)

pub delta_each : (Is : Record → Type 0) (jar : Jar) (cs : List Seen) → EachChange Is jar
    → Lists (under_names cs) (delta jar) → AllByRecursion (λ s. Is s.cookie) cs
delta_each Is jar cs all lists =
    each_of_names (λ s. Is s.cookie) cs lists.apart (λ q s is.
    let change = of_change (finmap.get jar.changes q) s (sym (lists.each q) ∙ is) in
    subst (λ (x : Seen). Is x.cookie) change.2 (all q change.0 change.1))
