-- The places of protected rows by their decoded names.
use Rattle.std.proofs.Common.{◌≡◌, ◌⊎◌, ◌↔◌, ◌&&◌, ◌<◌, ◌+◌, ◌++◌, ◌∷◌, [], ◌∙◌, ℕ, ℤ, Bool, true, false, not, cond}
use Rattle.std.proofs.Common.{List, Option, Some, None, refl, sym, ap, subst, inl, inr, ⊎_elim, true≢false, take}
use Rattle.std.proofs.Common.{length, get_or, zero, suc, arith, append-nil, append_assoc, IsTrue}
use Rattle.std.specs.Borrow.{Bor}
use Rattle.std.specs.Prelude.{filter, map, option_copied, option_map, unwrap_or, IfOk, Result, Ok, Err}
use Rattle.std.specs.BTreeMap.{BTreeMap, get_by, insert_entry, is_at}
use Rattle.std.specs.Cmp.Lexicographic.{slice_cmp}
use Rattle.std.specs.Global.{Vec}
use Rattle.std.specs.Map.{lookup, remove_entry}
use Rattle.std.specs.Ordering.{is_eq, match_ordering, nat_cmp}
use Rattle.std.specs.Str.{bytes_eq}
use Rattle.std.specs.declared.cmp.Ordering.{Ordering}
use Rattle.std.specs.declared.cmp.Ordering.TheVariants.{Less, Equal, Greater}
use Rattle.std.proofs.lemmas.Bool.{and_parts, both_ways, cases_Bool, cond-true, cond-false}
use Rattle.std.proofs.lemmas.List.{take_more, map-append}
use Rattle.std.proofs.lemmas.Map.Lookups.{exact_bytes}
use Rattle.std.proofs.lemmas.Map.Text.{is_eq-slice_cmp}
use Rattle.std.proofs.lemmas.Slice.Eq.{bytes_eq-Decides}
use Rattle.percent_encoding.specs.Percent.{percent_decode}
use Rattle.publicsuffix.specs.Rules.{Rule}
use Rattle.url.specs.Parts.{Parts}
use Rattle.cookie_text.specs.Printing.{is_set}
use Rattle.store_parts.specs.Expiry.{is_dead}
use Rattle.store_parts.specs.Schemes.{IsSecure}
use Rattle.cookie_store.specs.Rows.{Row, is_live}
use Rattle.user_agent.specs.Agent.{TakesLine}
use Rattle.user_agent.specs.Integrity.{is_protected}
use Rattle.user_agent.specs.Refusals.{HasOne, IsOverlaid}
use Rattle.user_agent.specs.SecurePlaces.{ArePlacesOf, IsOneReached, IsReached, Places, entries_of, is_named}
use Rattle.user_agent.specs.SecurePlaces.{ShowPlaces, listed, place_of, places_at, secure_places_of, texts_of}
use Rattle.user_agent.specs.SecureWins.{decoded_name}
use Rattle.user_agent.specs.declared.rules.Outcome.{Outcome}
use Rattle.user_agent.specs.declared.rules.Rules.{Rules}
use Rattle.user_agent.specs.declared.secure_places.Place.{Place}
use Rattle.user_agent.proofs.IntegrityLemmas.{line_keeps, not_dead, set_is}

-- ---- one row more

map_cond : (b : Bool) (xs ys : List Row) → map place_of (cond b xs ys) ≡ cond b (map place_of xs) (map place_of ys)
map_cond true xs ys = refl
map_cond false xs ys = refl

append_cond : (b : Bool) (row : Row) (places : List (List ℕ × List ℕ))
    → cond b (place_of row ∷ places) places ≡ map place_of (cond b (row ∷ []) []) ++ places
append_cond true row places = refl
append_cond false row places = refl

module _ (now : ℤ) (name : List ℕ) (row : Row) (rows : List Row) where
  abbrev rest : List Row
  rest = filter (is_protected now) rows

  pub places-protected : is_protected now row ≡ true
      → secure_places_of now name (row ∷ rows)
      ≡ map place_of (filter (is_named name) (row ∷ [])) ++ secure_places_of now name rows
  places-protected e =
      ap (λ rs. map place_of (filter (is_named name) rs)) (cond-true (is_protected now row) (row ∷ rest) rest e)
      ∙ (map_cond (is_named name row) (row ∷ filter (is_named name) rest) (filter (is_named name) rest)
      ∙ append_cond (is_named name row) row (map place_of (filter (is_named name) rest)))

  pub places-other : is_protected now row ≡ false
      → secure_places_of now name (row ∷ rows) ≡ secure_places_of now name rows
  places-other e =
      ap (λ rs. map place_of (filter (is_named name) rs)) (cond-false (is_protected now row) (row ∷ rest) rest e)

and_both : (a b : Bool) → a ≡ true → b ≡ true → (a && b) ≡ true
and_both true b p q = q
and_both false b p q = absurd (both_ways false refl p)

pub protected : (now : ℤ) (row : Row) → row.raw.cookie.secure ≡ Some true → is_dead now row.death ≡ false
    → is_protected now row ≡ true
protected now row secure live =
    and_both (is_set row.raw.cookie.secure) (is_live now row) (ap is_set secure) (ap not live)

pub unprotected : (now : ℤ) (row : Row)
    → ¬ ((row.raw.cookie.secure ≡ Some true) × (is_dead now row.death ≡ false)) → is_protected now row ≡ false
unprotected now row h =
    ⊎_elim
    (λ (yes : is_protected now row ≡ true).
    let parts = and_parts (is_set row.raw.cookie.secure) (is_live now row) yes in
    absurd (h (set_is row.raw.cookie.secure parts.0, not_dead (is_dead now row.death) parts.1)))
    (λ (no : is_protected now row ≡ false). no)
    (cases_Bool (is_protected now row))

-- the places so far, those of a row, and those of the rows behind it
module _ (now : ℤ) (name : List ℕ) (all : List (List ℕ × List ℕ)) (row : Row) (left rows : List Row)
    (steps : left ≡ row ∷ rows) where
  pub one_protected : (old new : List (List ℕ × List ℕ)) → is_protected now row ≡ true
      → new ≡ old ++ map place_of (filter (is_named name) (row ∷ [])) → old ++ secure_places_of now name left ≡ all
      → new ++ secure_places_of now name rows ≡ all
  one_protected old new held is h =
      ap (λ ps. ps ++ secure_places_of now name rows) is
      ∙ (append_assoc old (map place_of (filter (is_named name) (row ∷ []))) (secure_places_of now name rows)
      ∙ (ap (λ ps. old ++ ps) (sym (ap (secure_places_of now name) steps
      ∙ places-protected now name row rows held)) ∙ h))

  pub one_other : (old : List (List ℕ × List ℕ)) → is_protected now row ≡ false
      → old ++ secure_places_of now name left ≡ all → old ++ secure_places_of now name rows ≡ all
  one_other old free h =
      ap (λ ps. old ++ ps) (sym (ap (secure_places_of now name) steps ∙ places-other now name row rows free)) ∙ h

-- ---- rows that are overlaid, by their places

module _ (name domain path : List ℕ) (now : ℤ) where
  abbrev Is : Row → Type 0
  Is = IsOverlaid name domain path now

  abbrev at : List Row → List (List ℕ × List ℕ)
  at rows = secure_places_of now (percent_decode name) rows

  abbrev counts : Row → Bool
  counts row = is_protected now row && is_named (percent_decode name) row

  counted : (row : Row) → Is row → counts row ≡ true
  counted row is =
      and_both (is_protected now row) (is_named (percent_decode name) row) (protected now row is.secure is.live)
      ((bytes_eq-Decides (percent_decode name) (decoded_name row)).1 (sym is.named))

  overlaid : (row : Row) → counts row ≡ true → IsReached domain path (place_of row) → Is row
  overlaid row holds h =
      let both = and_parts (is_protected now row) (is_named (percent_decode name) row) holds in
      let held = and_parts (is_set row.raw.cookie.secure) (is_live now row) both.0 in
      record {
        secure = set_is row.raw.cookie.secure held.0;
        live = not_dead (is_dead now row.death) held.1;
        named = sym ((bytes_eq-Decides (percent_decode name) (decoded_name row)).0 both.1);
        nested = h.0;
        covered = h.1;
      }

  more : (row : Row) (rows : List Row) → at (row ∷ rows) ≡ cond (counts row) (place_of row ∷ at rows) (at rows)
  more row rows = by (is_protected now row)
    where
      by : (b : Bool)
          → map place_of
          (filter (is_named (percent_decode name))
          (cond b (row ∷ filter (is_protected now) rows) (filter (is_protected now) rows)))
          ≡ cond (b && is_named (percent_decode name) row) (place_of row ∷ at rows) (at rows)
      by true =
          map_cond (is_named (percent_decode name) row)
          (row ∷ filter (is_named (percent_decode name)) (filter (is_protected now) rows))
          (filter (is_named (percent_decode name)) (filter (is_protected now) rows))
      by false = refl

  abbrev Same : List Row → Type 0
  Same rows = IsOneReached domain path (at rows) ↔ HasOne Is rows

  here : (row : Row) (rows : List Row) → counts row ≡ true → at (row ∷ rows) ≡ place_of row ∷ at rows → Same rows
      → Same (row ∷ rows)
  here row rows holds e later = (
    λ h. elim (subst (IsOneReached domain path) e h) [
      | inl one ↦ inl (overlaid row holds one)
      | inr other ↦ inr (later.0 other)
    ],
    λ h. subst (IsOneReached domain path) (sym e) (elim h [
      | inl is ↦ inl (is.nested, is.covered)
      | inr other ↦ inr (later.1 other)
    ]),
  )

  past : (row : Row) (rows : List Row) → counts row ≡ false → at (row ∷ rows) ≡ at rows → Same rows
      → Same (row ∷ rows)
  past row rows free e later = (
    λ h. inr (later.0 (subst (IsOneReached domain path) e h)),
    λ h. elim h [
      | inl is ↦ absurd (both_ways (counts row) free (counted row is))
      | inr other ↦ subst (IsOneReached domain path) (sym e) (later.1 other)
    ],
  )

  pub reached : (rows : List Row) → Same rows
  reached [] = (λ h. h, λ h. h)
  reached (row ∷ rows) =
      ⊎_elim
      (λ (holds : counts row ≡ true).
      here row rows holds
      (more row rows ∙ cond-true (counts row) (place_of row ∷ at rows) (at rows) holds) (reached rows))
      (λ (free : counts row ≡ false).
      past row rows free
      (more row rows ∙ cond-false (counts row) (place_of row ∷ at rows) (at rows) free) (reached rows))
      (cases_Bool (counts row))

-- ---- one of a list of places

reached_at : (domain path : List ℕ) (places : List Place) (i : ℕ) (d : Place) → i < length places
    → IsReached domain path (texts_of (get_or places i d)) → IsOneReached domain path (map texts_of places)
reached_at domain path [] i d h is = absurd (omega (arith, h))
reached_at domain path (place ∷ places) zero d h is = inl is
reached_at domain path (place ∷ places) (suc i) d h is = inr (reached_at domain path places i d (omega arith) is)

pub reached_here : (domain path : List ℕ) (places : List Place) (i : ℕ) (place : Place) → i < length places
    → place ≡ get_or places i place → IsReached domain path (texts_of place)
    → IsOneReached domain path (map texts_of places)
reached_here domain path places i place h same is =
    reached_at domain path places i place h (subst (λ p. IsReached domain path (texts_of p)) same is)

none_behind : (domain path : List ℕ) (places : List (List ℕ × List ℕ)) (place : List ℕ × List ℕ)
    → IsOneReached domain path (places ++ place ∷ [])
    → IsOneReached domain path places ⊎ IsReached domain path place
none_behind domain path [] place (inl is) = inr is
none_behind domain path [] place (inr none) = absurd none
none_behind domain path (p ∷ ps) place (inl is) = inl (inl is)
none_behind domain path (p ∷ ps) place (inr later) =
    elim (none_behind domain path ps place later) [
      | inl earlier ↦ inl (inr earlier)
      | inr is ↦ inr is
    ]

pub reached_not : (domain path : List ℕ) (places : List Place) (i : ℕ) (place : Place) → i < length places
    → place ≡ get_or places i place → ¬ (IsOneReached domain path (map texts_of (take i places)))
    → ¬ (IsReached domain path (texts_of place))
    → ¬ (IsOneReached domain path (map texts_of (take (i + 1) places)))
reached_not domain path places i place h same none free is =
    elim (none_behind domain path (map texts_of (take i places)) (texts_of (get_or places i place))
    (subst (IsOneReached domain path)
    (ap (map texts_of) (take_more places i place h)
    ∙ map-append texts_of (take i places) (get_or places i place ∷ [])) is)) [
      | inl earlier ↦ none earlier
      | inr last ↦ free (subst (λ p. IsReached domain path (texts_of p)) (sym same) last)
    ]

-- ---- a map by texts

abbrev by_bytes : Vec ℕ → Vec ℕ → Ordering
by_bytes x y = slice_cmp nat_cmp x.items y.items

abbrev test : List ℕ → Vec ℕ → Bool
test name k = is_eq (slice_cmp nat_cmp name k.items)

module _ {X : Type 0} where
  abbrev at_text : List ℕ → List (Vec ℕ × X) → Option X
  at_text name es = lookup (is_at (λ (k : Vec ℕ). slice_cmp nat_cmp name k.items)) es

  twice : (b : Bool) (x y a : Option X) → cond b x a ≡ cond b x (cond b y a)
  twice true x y a = refl
  twice false x y a = refl

  swap : (t b : Bool) (x y a : Option X) → (b ≡ true → t ≡ false) → cond t y (cond b x a) ≡ cond b x (cond t y a)
  swap true true x y a h = absurd (true≢false (h refl))
  swap true false x y a h = refl
  swap false true x y a h = refl
  swap false false x y a h = refl

  -- one entry more, or another value for its key
  at_inserted : (name : List ℕ) (k : Vec ℕ) (v : X) (es : List (Vec ℕ × X))
      → at_text name (insert_entry by_bytes es k v) ≡ cond (bytes_eq name k.items) (Some v) (at_text name es)
  at_inserted name k v [] = ap (λ b. cond b (Some v) None) (is_eq-slice_cmp name k.items)
  at_inserted name k v (e ∷ es) = by (by_bytes k e.0) refl (at_inserted name k v es)
    where
      by : (o : Ordering) → by_bytes k e.0 ≡ o
          → at_text name (insert_entry by_bytes es k v) ≡ cond (bytes_eq name k.items) (Some v) (at_text name es)
          → at_text name (match_ordering o ((k, v) ∷ e ∷ es) ((e.0, v) ∷ es) (e ∷ insert_entry by_bytes es k v))
          ≡ cond (bytes_eq name k.items) (Some v) (at_text name (e ∷ es))
      by Less order later = ap (λ b. cond b (Some v) (at_text name (e ∷ es))) (is_eq-slice_cmp name k.items)
      by Equal order later =
          twice (test name e.0) (Some v) (Some e.1) (at_text name es)
          ∙ ap (λ b. cond b (Some v) (at_text name (e ∷ es)))
          (ap (λ t. is_eq (slice_cmp nat_cmp name t)) (sym (exact_bytes k.items e.0.items order))
          ∙ is_eq-slice_cmp name k.items)
      by Greater order later =
          ap (λ o. cond (test name e.0) (Some e.1) o) later
          ∙ swap (test name e.0) (bytes_eq name k.items) (Some v) (Some e.1) (at_text name es) apart
        where
          apart : bytes_eq name k.items ≡ true → test name e.0 ≡ false
          apart same =
              ap (λ n. is_eq (slice_cmp nat_cmp n e.0.items)) ((bytes_eq-Decides name k.items).0 same)
              ∙ ap is_eq order

  -- the entry of another text less
  at_removed : (name gone : List ℕ) (es : List (Vec ℕ × X)) → bytes_eq name gone ≡ false
      → at_text name (remove_entry (is_at (λ (k : Vec ℕ). slice_cmp nat_cmp gone k.items)) es) ≡ at_text name es
  at_removed name gone [] apart = refl
  at_removed name gone (e ∷ es) apart = by (test gone e.0) refl (at_removed name gone es apart)
    where
      by : (b : Bool) → test gone e.0 ≡ b
          → at_text name (remove_entry (is_at (λ (k : Vec ℕ). slice_cmp nat_cmp gone k.items)) es) ≡ at_text name es
          → at_text name (cond b es (e ∷ remove_entry (is_at (λ (k : Vec ℕ). slice_cmp nat_cmp gone k.items)) es))
          ≡ at_text name (e ∷ es)
      by true here later =
          let same : gone ≡ e.0.items =
          (bytes_eq-Decides gone e.0.items).0 (sym (is_eq-slice_cmp gone e.0.items) ∙ here) in
          let other : test name e.0 ≡ false =
          is_eq-slice_cmp name e.0.items ∙ (ap (bytes_eq name) (sym same) ∙ apart) in
          sym (cond-false (test name e.0) (Some e.1) (at_text name es) other)
      by false there later = ap (λ o. cond (test name e.0) (Some e.1) o) later

-- ---- the places of a map

abbrev shown : Option (Vec Place) → List (List ℕ × List ℕ)
shown of_name = unwrap_or (option_map (λ (of : Vec Place). map texts_of of.items) of_name) []

-- the places of another name, once those of one are taken out
pub others_stay : (old mid : BTreeMap (Vec ℕ) (Vec Place)) (gone : List ℕ)
    → mid.entries ≡ remove_entry (is_at (λ (k : Vec ℕ). slice_cmp nat_cmp gone k.items)) old.entries
    → (name : List ℕ) → bytes_eq name gone ≡ false → places_at mid name ≡ places_at old name
others_stay old mid gone is name apart =
    ap (λ es. shown (at_text name es)) is ∙ ap shown (at_removed name gone old.entries apart)

-- the places of a name by the map's entries
pub listed-entries : (name : List ℕ) (es : List (Vec ℕ × Vec Place))
    → listed (map (λ (e : Vec ℕ × Vec Place). (e.0.items, map texts_of e.1.items)) es) name
    ≡ shown (at_text name es)
listed-entries name [] = refl
listed-entries name (e ∷ es) =
    by (bytes_eq name e.0.items)
    (lookup (bytes_eq name) (map (λ (x : Vec ℕ × Vec Place). (x.0.items, map texts_of x.1.items)) es))
    (listed-entries name es)
    ∙ ap (λ b. shown (cond b (Some e.1) (at_text name es))) (sym (is_eq-slice_cmp name e.0.items))
  where
    by : (b : Bool) (left : Option (List (List ℕ × List ℕ))) → unwrap_or left [] ≡ shown (at_text name es)
        → unwrap_or (cond b (Some (map texts_of e.1.items)) left) [] ≡ shown (cond b (Some e.1) (at_text name es))
    by true left later = refl
    by false left later = later

-- those of the one with a place more
pub put_more : (old mid new : BTreeMap (Vec ℕ) (Vec Place)) (key : Vec ℕ) (gone : List ℕ) (before of_name : Vec Place)
    (place : Place) (row : Row) → gone ≡ key.items → map texts_of before.items ≡ places_at old gone
    → ((name : List ℕ) → bytes_eq name gone ≡ false → places_at mid name ≡ places_at old name)
    → of_name.items ≡ before.items ++ place ∷ [] → new.entries ≡ insert_entry by_bytes mid.entries key of_name
    → key.items ≡ decoded_name row → texts_of place ≡ place_of row
    → (name : List ℕ)
    → places_at new name ≡ places_at old name ++ map place_of (filter (is_named name) (row ∷ []))
put_more old mid new key gone before of_name place row asked had rest items entries named placed name =
    ap (λ es. shown (at_text name es)) entries
    ∙ (ap shown (at_inserted name key of_name mid.entries)
    ∙ (by (bytes_eq name key.items) refl
    ∙ ap (λ n. places_at old name ++ map place_of (cond (bytes_eq name n) (row ∷ []) [])) named))
  where
    by : (b : Bool) → bytes_eq name key.items ≡ b
        → shown (cond b (Some of_name) (at_text name mid.entries))
        ≡ places_at old name ++ map place_of (cond b (row ∷ []) [])
    by true here =
        let same : gone ≡ name = asked ∙ sym ((bytes_eq-Decides name key.items).0 here) in
        ap (map texts_of) items
        ∙ (map-append texts_of before.items (place ∷ [])
        ∙ (λ i. (had ∙ ap (places_at old) same) i ++ placed i ∷ []))
    by false there =
        rest name (ap (bytes_eq name) asked ∙ there) ∙ sym (append-nil (places_at old name))

-- the places that are found for a name
pub has_places : (places : BTreeMap (Vec ℕ) (Vec Place)) (name text : List ℕ) → text ≡ name → (of_name : Vec Place)
    → Some of_name ≡ get_by (λ (k : Vec ℕ). slice_cmp nat_cmp text k.items) places
    → places_at places name ≡ map texts_of of_name.items
has_places places name text same of_name found = ap (places_at places) (sym same) ∙ sym (ap shown found)

pub has_no_place : (places : BTreeMap (Vec ℕ) (Vec Place)) (name text : List ℕ) → text ≡ name
    → None ≡ get_by (λ (k : Vec ℕ). slice_cmp nat_cmp text k.items) places → places_at places name ≡ []
has_no_place places name text same none = ap (places_at places) (sym same) ∙ sym (ap shown none)

-- ---- what a map shows

pub shows_places : (now : ℤ) (rows : List Row) (places : BTreeMap (Vec ℕ) (Vec Place))
    → ((name : List ℕ) → places_at places name ≡ secure_places_of now name rows)
    → ShowPlaces (Some (entries_of places)) now rows
shows_places now rows places h name = listed-entries name places.entries ∙ h name

pub overlies_by_places : {E : Type 0} (name domain path : List ℕ) (now : ℤ) (rows : List Row)
    (places : BTreeMap (Vec ℕ) (Vec Place)) → ShowPlaces (Some (entries_of places)) now rows → (r : Result Bool E)
    → IfOk r (λ over. IsTrue over ↔ IsOneReached domain path (places_at places (percent_decode name)))
    → IfOk r (λ over. IsTrue over ↔ HasOne (IsOverlaid name domain path now) rows)
overlies_by_places name domain path now rows places shows (Err e) h = tt
overlies_by_places name domain path now rows places shows (Ok over) h =
    let is : places_at places (percent_decode name) ≡ secure_places_of now (percent_decode name) rows =
    sym (listed-entries (percent_decode name) places.entries) ∙ shows (percent_decode name) in
    let law = reached name domain path now rows in (
      λ yes. law.0 (subst (IsOneReached domain path) is (h.0 yes)),
      λ one. h.1 (subst (IsOneReached domain path) (sym is) (law.1 one)),
    )

-- ---- places stay, whatever comes

pub places_stay : (places : Places) (rules : Rules) (list : List Rule) (rows new : List Row) (url : Parts) (now : ℤ)
    (line : List ℕ) (outcome : Outcome) → ArePlacesOf places rules url now rows
    → TakesLine rules list rows url now line outcome new → ArePlacesOf places rules url now new
places_stay None rules list rows new url now line outcome h takes = record { shown = tt; stay = tt }
places_stay (Some at) rules list rows new url now line outcome h takes = record {
  shown = λ name. h.shown name
      ∙ ap (λ rs. map place_of (filter (is_named name) rs))
      (sym (line_keeps rules h.stay.0 h.stay.1 list url now h.stay.2 rows new line outcome takes));
  stay = h.stay;
}
