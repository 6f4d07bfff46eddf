-- A protected row stands in a header as before, whatever comes from a URL that isn't secure: what a line changes has a
-- key that lies over no protected row, and a rival that a request is given beside such a row would lie over it.
use Rattle.std.proofs.Common.{◌≡◌, ◌⊎◌, ℕ, ℤ, ◌<◌, ◌≤◌, List, [], ◌∷◌, ◌++◌, ◌&&◌, Bool, true, false, not}
use Rattle.std.proofs.Common.{cond, length, append-nil, Option, Some, None, Result, Ok, Err, sym, refl, ap, ◌∙◌, subst}
use Rattle.std.proofs.Common.{inl, inr, ⊎_elim, arith, IsTrue}
use Rattle.std.specs.Prelude.{filter, map, nat_le}
use Rattle.std.specs.List.{AllByRecursion, find, list_any}
use Rattle.std.specs.Str.{IsUtf8, bytes_eq}
use Rattle.std.proofs.lemmas.Bool.{and_parts, both_ways, cases_Bool, cond-true, cond-false, leb-true, le-leb}
use Rattle.std.proofs.lemmas.List.Elements.{All-from_recursion, recursion_from_All}
use Rattle.std.proofs.lemmas.List.Sorted.{All-permutation}
use Rattle.std.proofs.lemmas.Slice.Eq.{bytes_eq-Decides}
use Rattle.publicsuffix.specs.Rules.{Rule}
use Rattle.percent_encoding.specs.Percent.{percent_decode}
use Rattle.url.specs.Parts.{Parts, IsValid}
use Rattle.cookie_text.specs.Reading.{ReadsPlain}
use Rattle.cookie_text.specs.Record.{Seen}
use Rattle.cookie_text.specs.declared.error.ParseError.{ParseError}
use Rattle.cookie_text.specs.Printing.{is_set}
use Rattle.store_parts.specs.Expiry.{is_dead}
use Rattle.store_parts.specs.PathMatch.{BeginsWithSlash, MeetAtSlash, PathMatches}
use Rattle.store_parts.specs.Schemes.{IsSecure}
use Rattle.cookie_store.specs.Given.{AreGiven, ArePicked, IsGiven}
use Rattle.cookie_store.specs.Insertion.{Admits, End, Fits, Inserts, InsertsRead, alone, settled}
use Rattle.cookie_store.specs.Longest.{AreLongestFirst, LengthsFall, has_length, path_length}
use Rattle.cookie_store.specs.Rows.{Row, behind_last, domain_text, ended, expired, has_domain_of, has_key_of}
use Rattle.cookie_store.specs.Rows.{has_place_of, is_live, is_live_of, put, replaced}
use Rattle.cookie_store.proofs.LongestLemmas.{told_by_lengths}
use Rattle.cookie_client.specs.Accept.{Accepts}
use Rattle.cookie_client.specs.declared.outcome.LineEnd.{LineEnd}
use Rattle.user_agent.specs.Agent.{TakesLine, TakesLines}
use Rattle.user_agent.specs.Integrity.{ProtectedRowsStand, StandsAsBefore, has_name_of, is_protected, is_rival_of}
use Rattle.user_agent.specs.Refusals.{HasOne, IsLetIn, IsOverlaid}
use Rattle.user_agent.specs.declared.rules.Outcome.{Outcome}
use Rattle.user_agent.specs.declared.rules.Rules.{Rules}
use Rattle.user_agent.proofs.IntegrityLemmas.{line_keeps, made_free, not_dead, set_is}
use Rattle.user_agent.proofs.NestedLemmas.{covers_nested}

-- ---- a list and those of its rows that are picked

-- the row is one of these
abbrev IsIn : Row → List Row → Type 0
IsIn row rows = HasOne (λ other. row ≡ other) rows

module _ (Q : Row → Type 0) where
  picks_map : (f : Row → Row) → ((y : Row) → (f y ≡ y) ⊎ ((¬ (Q y)) × (¬ (Q (f y))))) → (rows picked : List Row)
      → ArePicked Q (map f rows) picked → ArePicked Q rows picked
  picks_map f each [] picked p = p
  picks_map f each (y ∷ ys) picked (later, p, is) = (later, picks_map f each ys later p, by (each y) is)
    where
      by : (f y ≡ y) ⊎ ((¬ (Q y)) × (¬ (Q (f y))))
          → ((Q (f y) × (picked ≡ f y ∷ later)) ⊎ ((¬ (Q (f y))) × (picked ≡ later)))
          → ((Q y × (picked ≡ y ∷ later)) ⊎ ((¬ (Q y)) × (picked ≡ later)))
      by (inl same) h = subst (λ z. (Q z × (picked ≡ z ∷ later)) ⊎ ((¬ (Q z)) × (picked ≡ later))) same h
      by (inr (old, new)) (inl h) = absurd (new h.0)
      by (inr (old, new)) (inr h) = inr (old, h.1)

  picks_behind : (test : Row → Bool) (x : Row) → ¬ (Q x) → (rows picked : List Row)
      → ArePicked Q (behind_last test x rows) picked → ArePicked Q rows picked
  picks_behind test x none [] picked (later, p, inl is) = absurd (none is.0)
  picks_behind test x none [] picked (later, p, inr is) = is.1 ∙ p
  picks_behind test x none (y ∷ ys) picked h =
      by (test y && not (list_any test ys)) h (λ l p. picks_behind test x none ys l p)
    where
      one : (later : List Row) → ArePicked Q (x ∷ ys) later → ArePicked Q ys later
      one later (l, p, inl is) = absurd (none is.0)
      one later (l, p, inr is) = subst (ArePicked Q ys) (sym is.1) p

      by : (b : Bool) → ArePicked Q (cond b (y ∷ x ∷ ys) (y ∷ behind_last test x ys)) picked
          → ((l : List Row) → ArePicked Q (behind_last test x ys) l → ArePicked Q ys l)
          → ArePicked Q (y ∷ ys) picked
      by true (later, p, is) rest = (later, one later p, is)
      by false (later, p, is) rest = (later, rest later p, is)

  picks_once : (rows a b : List Row) → ArePicked Q rows a → ArePicked Q rows b → a ≡ b
  picks_once [] a b p q = p ∙ sym q
  picks_once (y ∷ ys) a b (l, p, inl is) (k, q, inl as_is) =
      is.1 ∙ (ap (λ zs. y ∷ zs) (picks_once ys l k p q) ∙ sym as_is.1)
  picks_once (y ∷ ys) a b (l, p, inl is) (k, q, inr isnt) = absurd (isnt.0 is.0)
  picks_once (y ∷ ys) a b (l, p, inr isnt) (k, q, inl is) = absurd (isnt.0 is.0)
  picks_once (y ∷ ys) a b (l, p, inr isnt) (k, q, inr is_not) = isnt.1 ∙ (picks_once ys l k p q ∙ sym is_not.1)

  -- what a test leaves of them is picked by both
  picks_narrow : (test : Row → Bool) (rows picked : List Row) → ArePicked Q rows picked
      → ArePicked (λ y. Q y × (test y ≡ true)) rows (filter test picked)
  picks_narrow test [] picked p = ap (filter test) p
  picks_narrow test (y ∷ ys) picked (later, p, inr isnt) =
      (filter test later, picks_narrow test ys later p, inr ((λ h. isnt.0 h.0), ap (filter test) isnt.1))
  picks_narrow test (y ∷ ys) picked (later, p, inl is) =
      (filter test later, picks_narrow test ys later p, by (cases_Bool (test y)))
    where
      by : (test y ≡ true) ⊎ (test y ≡ false)
          → ((Q y × (test y ≡ true)) × (filter test picked ≡ y ∷ filter test later))
          ⊎ ((¬ (Q y × (test y ≡ true))) × (filter test picked ≡ filter test later))
      by (inl passes) = inl ((is.0, passes), ap (filter test) is.1 ∙ cond-true (test y) _ _ passes)
      by (inr fails) = inr ((λ h. both_ways (test y) fails h.1), ap (filter test) is.1 ∙ cond-false (test y) _ _ fails)

  picked_each : (P : Row → Type 0) (rows picked : List Row) → AllByRecursion P rows → ArePicked Q rows picked
      → AllByRecursion (λ y. Q y × P y) picked
  picked_each P [] picked all p = subst (AllByRecursion (λ y. Q y × P y)) (sym p) tt
  picked_each P (y ∷ ys) picked all (later, p, inl is) =
      subst (AllByRecursion (λ z. Q z × P z)) (sym is.1) ((is.0, all.0), picked_each P ys later all.1 p)
  picked_each P (y ∷ ys) picked all (later, p, inr isnt) =
      subst (AllByRecursion (λ z. Q z × P z)) (sym isnt.1) (picked_each P ys later all.1 p)

all_weaker : (P Q : Row → Type 0) → ((y : Row) → P y → Q y) → (rows : List Row) → AllByRecursion P rows
    → AllByRecursion Q rows
all_weaker P Q each [] all = tt
all_weaker P Q each (y ∷ ys) all = (each y all.0, all_weaker P Q each ys all.1)

each_in : (rows : List Row) → AllByRecursion (λ y. IsIn y rows) rows
each_in [] = tt
each_in (y ∷ ys) = (inl refl, all_weaker (λ z. IsIn z ys) (λ z. IsIn z (y ∷ ys)) (λ z h. inr h) ys (each_in ys))

at_one : (P : Row → Type 0) (x : Row) (rows : List Row) → IsIn x rows → AllByRecursion P rows → P x
at_one P x (y ∷ ys) (inl e) all = subst P (sym e) all.0
at_one P x (y ∷ ys) (inr h) all = at_one P x ys h all.1
at_one P x [] h all = absurd h

in_filter : (test : Row → Bool) (x : Row) (rows : List Row) → test x ≡ true → IsIn x rows → IsIn x (filter test rows)
in_filter test x [] passes h = absurd h
in_filter test x (y ∷ ys) passes (inl e) =
    subst (IsIn x) (sym (cond-true (test y) (y ∷ filter test ys) (filter test ys) (sym (ap test e) ∙ passes))) (inl e)
in_filter test x (y ∷ ys) passes (inr h) = by (test y) (in_filter test x ys passes h)
  where
    by : (b : Bool) → IsIn x (filter test ys) → IsIn x (cond b (y ∷ filter test ys) (filter test ys))
    by true k = inr k
    by false k = k

out_filter : (test : Row → Bool) (x : Row) (rows : List Row) → IsIn x (filter test rows) → IsIn x rows
out_filter test x [] h = absurd h
out_filter test x (y ∷ ys) h = by (test y) h (λ k. out_filter test x ys k)
  where
    by : (b : Bool) → IsIn x (cond b (y ∷ filter test ys) (filter test ys)) → (IsIn x (filter test ys) → IsIn x ys)
        → IsIn x (y ∷ ys)
    by true (inl e) rest = inl e
    by true (inr k) rest = inr (rest k)
    by false k rest = inr (rest k)

-- ---- what a line changes

same_bytes : (a : List ℕ) → bytes_eq a a ≡ true
same_bytes a = (bytes_eq-Decides a a).1 refl

own_key : (row : Row) → has_key_of row row ≡ true
own_key row =
    rw (same_bytes (domain_text row), same_bytes row.path.text, same_bytes row.raw.cookie.name) refl

-- the rows stay; or a row is put among them, or ends the one of its key
abbrev Changes : ℤ → List Row → Row → List Row → Type 0
Changes now rows row new = (new ≡ rows) ⊎ (new ≡ put row rows) ⊎ (new ≡ ended now row rows)

settled_changes : (now : ℤ) (rows : List Row) (row : Row) → Changes now rows row (settled rows now row).1
settled_changes now rows row = by (is_dead now row.death) (list_any (is_live_of now row) rows) refl refl
  where
    by : (d l : Bool) → is_dead now row.death ≡ d → list_any (is_live_of now row) rows ≡ l
        → Changes now rows row (settled rows now row).1
    by true true dead live = inr (inr (rw (dead, live) refl))
    by true false dead live = inl (rw (dead, live) refl)
    by false l dead live = inr (inl (rw dead refl))

fits_changes : (now : ℤ) (rows : List Row) (url : Parts) (row : Row) (end : End) → Fits rows url now row end
    → Changes now rows row end.1
fits_changes now rows url row end (inl (out, e)) = inl (ap (λ (x : End). x.1) e)
fits_changes now rows url row end (inr (covers, inl (guarded, e))) = inl (ap (λ (x : End). x.1) e)
fits_changes now rows url row end (inr (covers, inr (free, e))) =
    subst (λ (x : End). Changes now rows row x.1) (sym e) (settled_changes now rows row)

-- no row that has the key of what changes is so: those that are stay as they are
module _ (Q : Row → Type 0) (now : ℤ) (row : Row) (none : (y : Row) → has_key_of row y ≡ true → ¬ (Q y)) where
  put_picks : (rows picked : List Row) → ArePicked Q (put row rows) picked → ArePicked Q rows picked
  put_picks rows picked h =
      by (list_any (has_key_of row) rows) (list_any (has_place_of row) rows) h
    where
      each : (y : Row) → (cond (has_key_of row y) row y ≡ y)
          ⊎ ((¬ (Q y)) × (¬ (Q (cond (has_key_of row y) row y))))
      each y =
          ⊎_elim
          (λ (key : has_key_of row y ≡ true).
          inr (none y key, λ q. none row (own_key row) (subst Q (cond-true (has_key_of row y) row y key) q)))
          (λ (other : has_key_of row y ≡ false). inl (cond-false (has_key_of row y) row y other))
          (cases_Bool (has_key_of row y))

      by : (k p : Bool) → ArePicked Q
          (cond k (replaced row rows) (cond p (behind_last (has_place_of row) row rows)
          (behind_last (has_domain_of row) row rows))) picked
          → ArePicked Q rows picked
      by true p g = picks_map Q (λ y. cond (has_key_of row y) row y) each rows picked g
      by false true g = picks_behind Q (has_place_of row) row (none row (own_key row)) rows picked g
      by false false g = picks_behind Q (has_domain_of row) row (none row (own_key row)) rows picked g

  ended_picks : (rows picked : List Row) → ArePicked Q (ended now row rows) picked → ArePicked Q rows picked
  ended_picks rows picked h = picks_map Q (λ y. cond (is_live_of now row y) (expired y) y) each rows picked h
    where
      each : (y : Row) → (cond (is_live_of now row y) (expired y) y ≡ y)
          ⊎ ((¬ (Q y)) × (¬ (Q (cond (is_live_of now row y) (expired y) y))))
      each y =
          ⊎_elim
          (λ (here : is_live_of now row y ≡ true).
          let parts = and_parts (has_key_of row y) (is_live now y) here in
          inr (
            none y parts.0,
            λ q. none (expired y) parts.0 (subst Q (cond-true (is_live_of now row y) (expired y) y here) q),
          ))
          (λ (other : is_live_of now row y ≡ false). inl (cond-false (is_live_of now row y) (expired y) y other))
          (cases_Bool (is_live_of now row y))

  changes_picks : (rows new picked : List Row) → Changes now rows row new → ArePicked Q new picked
      → ArePicked Q rows picked
  changes_picks rows new picked (inl e) h = subst (λ rs. ArePicked Q rs picked) e h
  changes_picks rows new picked (inr (inl e)) h = put_picks rows picked (subst (λ rs. ArePicked Q rs picked) e h)
  changes_picks rows new picked (inr (inr e)) h = ended_picks rows picked (subst (λ rs. ArePicked Q rs picked) e h)

-- the row lies over none of these
abbrev LiesOverNone : ℤ → List Row → Row → Type 0
LiesOverNone now rows row = ¬ (HasOne (IsOverlaid row.raw.cookie.name (domain_text row) row.path.text now) rows)

-- the rows stay, or change by a row that lies over none of them
abbrev ChangesFreely : ℤ → List Row → List Row → Type 0
ChangesFreely now rows new = (new ≡ rows) ⊎ ((row : Row) × LiesOverNone now rows row × Changes now rows row new)

module _ (rules : Rules) (from_http : IsTrue rules.secure_from_http) (overlay : IsTrue rules.secure_overlay)
    (list : List Rule) (url : Parts) (now : ℤ) (insecure : ¬ (IsSecure url)) where
  admits_freely : (rows : List Row) (made : Row) (end : End) → LiesOverNone now rows made
      → Admits list rows url now made end → ChangesFreely now rows end.1
  admits_freely rows made end free (inl (unlisted, fits)) =
      inr (made, free, fits_changes now rows url made end fits)
  admits_freely rows made end free (inr (inl (listed, own, fits))) =
      inr (alone made, free, fits_changes now rows url (alone made) end fits)
  admits_freely rows made end free (inr (inr (listed, other, e))) = inl (ap (λ (x : End). x.1) e)

  inserts_freely : (rows : List Row) (made : Row) (end : End) → LiesOverNone now rows made
      → Inserts list rows url now made end → ChangesFreely now rows end.1
  inserts_freely rows made end free (inl (barred, e)) = inl (ap (λ (x : End). x.1) e)
  inserts_freely rows made end free (inr (allowed, admits)) = admits_freely rows made end free admits

  read_freely : (rows : List Row) (line : List ℕ) → IsLetIn rules rows url now line → IsUtf8 line
      → (read : Result Seen ParseError) → ReadsPlain line read → (end : End) → InsertsRead list rows url now read end
      → ChangesFreely now rows end.1
  read_freely rows line let_in utf8 (Err error) reads end e = inl (ap (λ (x : End). x.1) e)
  read_freely rows line let_in utf8 (Ok seen) reads end (inl (cause, known, refuses, e)) =
      inl (ap (λ (x : End). x.1) e)
  read_freely rows line let_in utf8 (Ok seen) reads end (inr (made, is, inserts)) =
      inserts_freely rows made end
      (made_free rules from_http overlay list url now insecure rows line let_in utf8 seen reads made is) inserts

  accepts_freely : (rows new : List Row) (line : List ℕ) (end : LineEnd) → IsLetIn rules rows url now line
      → Accepts list rows url now line end new → ChangesFreely now rows new
  accepts_freely rows new line end let_in (inl (against, is, same)) = inl same
  accepts_freely rows new line end let_in (inr (free, inl (no_text, is, same))) = inl same
  accepts_freely rows new line end let_in (inr (free, inr (utf8, (read, reads, (answer, inserts, is))))) =
      read_freely rows line let_in utf8 read reads (answer, new) inserts

  line_freely : (rows new : List Row) (line : List ℕ) (outcome : Outcome)
      → TakesLine rules list rows url now line outcome new → ChangesFreely now rows new
  line_freely rows new line outcome (inl (stopped, is, same)) = inl same
  line_freely rows new line outcome (inr (free, (handed, is_handed, inl (rule, by, is, same)))) = inl same
  line_freely rows new line outcome (inr (free, (handed, is_handed, inr (let_in, (end, accepts, is))))) =
      accepts_freely rows new handed end let_in accepts

  -- where no row is picked that has the key of one that doesn't lie over this protected row, the picked rows stay
  module _ (Q : Row → Type 0) (guard : Row) (protected : is_protected now guard ≡ true)
      (covers : (row y : Row)
      → ¬ (IsOverlaid row.raw.cookie.name (domain_text row) row.path.text now guard)
      → has_key_of row y ≡ true → ¬ (Q y)) where
    free_of : (row : Row) (rows : List Row) → LiesOverNone now rows row → IsIn guard rows
        → ¬ (IsOverlaid row.raw.cookie.name (domain_text row) row.path.text now guard)
    free_of row [] free h over = absurd h
    free_of row (y ∷ ys) free (inl e) over =
        free (inl (subst (IsOverlaid row.raw.cookie.name (domain_text row) row.path.text now) e over))
    free_of row (y ∷ ys) free (inr h) over = free_of row ys (λ k. free (inr k)) h over

    freely_picks : (rows new picked : List Row) → ChangesFreely now rows new → IsIn guard rows → ArePicked Q new picked
        → ArePicked Q rows picked
    freely_picks rows new picked (inl e) there h = subst (λ rs. ArePicked Q rs picked) e h
    freely_picks rows new picked (inr (row, free, changes)) there h =
        changes_picks Q now row (λ y key. covers row y (free_of row rows free there) key) rows new picked changes h

    lines_pick : (rows new picked : List Row) (lines : List (List ℕ)) (outcomes : List Outcome)
        → TakesLines rules list rows url now lines outcomes new → IsIn guard rows → ArePicked Q new picked
        → ArePicked Q rows picked
    lines_pick rows new picked [] outcomes takes there h = subst (λ rs. ArePicked Q rs picked) takes.1 h
    lines_pick rows new picked (line ∷ lines) [] takes there h = absurd takes
    lines_pick rows new picked (line ∷ lines) (outcome ∷ outcomes) (mid, one, rest) there h =
        let stays = line_keeps rules from_http overlay list url now insecure rows mid line outcome one in
        let still : IsIn guard mid =
        out_filter (is_protected now) guard mid
        (subst (IsIn guard) (sym stays) (in_filter (is_protected now) guard rows protected there)) in
        freely_picks rows mid picked (line_freely rows mid line outcome one) there
        (lines_pick mid new picked lines outcomes rest still h)

-- ---- paths

-- the longer of two fronts of a list has the shorter one in front
longer_front : (xs ys r s : List ℕ) → xs ++ r ≡ ys ++ s → length xs ≤ length ys
    → (mid : List ℕ) × (ys ≡ xs ++ mid) × (r ≡ mid ++ s)
longer_front [] ys r s e le = (ys, refl, e)
longer_front (x ∷ xs) [] r s e le = absurd (omega (arith, le))
longer_front (x ∷ xs) (y ∷ ys) r s e le =
    let head : y ≡ x = cc in
    let tail : xs ++ r ≡ ys ++ s = cc in
    let (mid, cut, rest) = longer_front xs ys r s tail (omega (arith, le)) in
    (mid, ap (λ z. z ∷ ys) head ∙ ap (λ zs. x ∷ zs) cut, rest)

-- what stands behind a path in one that path-matches it
abbrev EndsSo : List ℕ → List ℕ → Type 0
EndsSo path rest = (rest ≡ []) ⊎ MeetAtSlash path rest

split_path : (path request : List ℕ) → PathMatches path request
    → (rest : List ℕ) × (request ≡ path ++ rest) × EndsSo path rest
split_path path request (inl same) = ([], same ∙ sym (append-nil path), inl refl)
split_path path request (inr prefix) = (prefix.rest, prefix.split, inr prefix.at_slash)

front_matches : (path longer mid s r : List ℕ) → longer ≡ path ++ mid → r ≡ mid ++ s → EndsSo path r
    → PathMatches path longer
front_matches path longer [] s r cut e ends = inl (cut ∙ append-nil path)
front_matches path longer (m ∷ ms) s r cut e (inl none) =
    absurd (let wrong : m ∷ (ms ++ s) ≡ [] = sym e ∙ none in cc)
front_matches path longer (m ∷ ms) s r cut e (inr (inl last)) =
    inr (record { rest = m ∷ ms; split = cut; at_slash = inl last })
front_matches path longer (m ∷ ms) s r cut e (inr (inr first)) =
    inr (record { rest = m ∷ ms; split = cut; at_slash = inr (subst BeginsWithSlash e first) })

-- of two paths that a request's path path-matches the longer path-matches the other
longer_matches : (path longer request : List ℕ) → PathMatches path request → PathMatches longer request
    → length path ≤ length longer → PathMatches path longer
longer_matches path longer request one other le =
    let (r, first, ends) = split_path path request one in
    let (s, second, ends_too) = split_path longer request other in
    let (mid, cut, rest) = longer_front path longer r s (sym first ∙ second) le in
    front_matches path longer mid s r cut rest ends

-- ---- a rival that a request is given lies over the row

same_text : (a b : List ℕ) → bytes_eq a b ≡ true → a ≡ b
same_text a b e = (bytes_eq-Decides a b).0 e

record HaveOneKey (a b : Row) : Type 0 where
  name : a.raw.cookie.name ≡ b.raw.cookie.name
  domain : domain_text a ≡ domain_text b
  path : a.path.text ≡ b.path.text

one_key : (a b : Row) → has_key_of a b ≡ true → HaveOneKey a b
one_key a b key =
    let named = and_parts (has_place_of a b) (bytes_eq a.raw.cookie.name b.raw.cookie.name) key in
    let placed = and_parts (has_domain_of a b) (bytes_eq a.path.text b.path.text) named.0 in
    record {
      name = same_text a.raw.cookie.name b.raw.cookie.name named.1;
      domain = same_text (domain_text a) (domain_text b) placed.0;
      path = same_text a.path.text b.path.text placed.1;
    }

module _ (now : ℤ) (to : Parts) (at : ℤ) (valid : IsValid to) (guard : Row) (protected : is_protected now guard ≡ true)
    (given : IsGiven guard to at) where
  abbrev Rival : Row → Type 0
  Rival y = IsGiven y to at × (is_rival_of guard y ≡ true)

  secured : guard.raw.cookie.secure ≡ Some true
  secured =
      set_is guard.raw.cookie.secure (and_parts (is_set guard.raw.cookie.secure) (is_live now guard) protected).0

  lives : is_dead now guard.death ≡ false
  lives =
      not_dead (is_dead now guard.death)
      (and_parts (is_set guard.raw.cookie.secure) (is_live now guard) protected).1

  rival_over : (y : Row) → Rival y → IsOverlaid y.raw.cookie.name (domain_text y) y.path.text now guard
  rival_over y (is, rival) =
      let parts = and_parts (has_name_of guard y) (nat_le (path_length guard) (path_length y)) rival in
      record {
        secure = secured;
        live = lives;
        named = same_text (percent_decode guard.raw.cookie.name) (percent_decode y.raw.cookie.name) parts.0;
        nested = covers_nested to y.domain guard.domain valid (given.goes.secure secured) is.goes.domain
            given.goes.domain;
        covered = longer_matches guard.path.text y.path.text to.path given.goes.path.1 is.goes.path.1
            (leb-true (path_length guard) (path_length y) parts.1);
      }

  rival_covers : (row y : Row) → ¬ (IsOverlaid row.raw.cookie.name (domain_text row) row.path.text now guard)
      → has_key_of row y ≡ true → ¬ (Rival y)
  rival_covers row y free key rival =
      let k = one_key row y key in
      free
      (subst (λ n. IsOverlaid n (domain_text row) row.path.text now guard) (sym k.name)
      (subst (λ d. IsOverlaid y.raw.cookie.name d row.path.text now guard) (sym k.domain)
      (subst (λ p. IsOverlaid y.raw.cookie.name (domain_text y) p now guard) (sym k.path) (rival_over y rival))))

-- ---- longer paths first

module _ (test : Row → Bool) where
  filter_all : (P : Row → Type 0) (rows : List Row) → AllByRecursion P rows → AllByRecursion P (filter test rows)
  filter_all P [] all = tt
  filter_all P (y ∷ ys) all = by (test y) (filter_all P ys all.1)
    where
      by : (b : Bool) → AllByRecursion P (filter test ys)
          → AllByRecursion P (cond b (y ∷ filter test ys) (filter test ys))
      by true rest = (all.0, rest)
      by false rest = rest

  pub filter_falls : (rows : List Row) → LengthsFall rows → LengthsFall (filter test rows)
  filter_falls [] fall = tt
  filter_falls (y ∷ ys) fall = by (test y) (filter_falls ys fall.1)
    where
      by : (b : Bool) → LengthsFall (filter test ys) → LengthsFall (cond b (y ∷ filter test ys) (filter test ys))
      by true rest = (filter_all (λ later. path_length later ≤ path_length y) ys fall.0, rest)
      by false rest = rest

  pub filter_swap : (other : Row → Bool) (rows : List Row)
      → filter other (filter test rows) ≡ filter test (filter other rows)
  filter_swap other [] = refl
  filter_swap other (y ∷ ys) = by (test y) (other y) refl refl (filter_swap other ys)
    where
      by : (t o : Bool) → test y ≡ t → other y ≡ o → filter other (filter test ys) ≡ filter test (filter other ys)
          → filter other (cond t (y ∷ filter test ys) (filter test ys))
          ≡ filter test (cond o (y ∷ filter other ys) (filter other ys))
      by true true et eo rest = rw (et, eo) (ap (λ zs. y ∷ zs) rest)
      by true false et eo rest = rw eo rest
      by false true et eo rest = rw et rest
      by false false et eo rest = rest

  -- the same rows, with longer paths first, are the same list
  first_once : (a b x y : List Row) → AreLongestFirst a x → AreLongestFirst b y → filter test a ≡ filter test b
      → filter test x ≡ filter test y
  first_once a b x y f g same =
      told_by_lengths (filter test x) (filter test y) (filter_falls x f.fall) (filter_falls y g.fall)
      (λ n. filter_swap (has_length n) x
      ∙ (ap (filter test) (f.stable n)
      ∙ (sym (filter_swap (has_length n) a)
      ∙ (ap (filter (has_length n)) same
      ∙ (filter_swap (has_length n) b
      ∙ (ap (filter test) (sym (g.stable n)) ∙ sym (filter_swap (has_length n) y)))))))

pub filter_same : (f g : Row → Bool) (rows : List Row) → AllByRecursion (λ y. f y ≡ g y) rows
    → filter f rows ≡ filter g rows
filter_same f g [] all = refl
filter_same f g (y ∷ ys) all =
    ap (λ b. cond b (y ∷ filter f ys) (filter f ys)) all.0
    ∙ ap (λ zs. cond (g y) (y ∷ zs) zs) (filter_same f g ys all.1)

ordered_all : (P : Row → Type 0) (rows ordered : List Row) → AreLongestFirst rows ordered → AllByRecursion P rows
    → AllByRecursion P ordered
ordered_all P rows ordered first all =
    recursion_from_All P ordered (All-permutation P rows ordered first.permutation (All-from_recursion P rows all))

-- ---- the first row of a name

abbrev front_of : List Row → Option Row
front_of [] = None
front_of (y ∷ ys) = Some y

found_front : (test : Row → Bool) (rows : List Row) → find test rows ≡ front_of (filter test rows)
found_front test [] = refl
found_front test (y ∷ ys) = by (test y) (found_front test ys)
  where
    by : (b : Bool) → find test ys ≡ front_of (filter test ys)
        → cond b (Some y) (find test ys) ≡ front_of (cond b (y ∷ filter test ys) (filter test ys))
    by true rest = refl
    by false rest = rest

and_true : (b : Bool) → (b && true) ≡ b
and_true true = refl
and_true false = refl

module _ (guard : Row) where
  own_name : has_name_of guard guard ≡ true
  own_name = same_bytes (percent_decode guard.raw.cookie.name)

  own_rival : is_rival_of guard guard ≡ true
  own_rival = rw (own_name, le-leb (path_length guard) (path_length guard) (omega arith)) refl

  -- the first row of its name is a rival, where it is there and lengths fall
  found_rival : (rows : List Row) → LengthsFall rows → IsIn guard rows
      → find (has_name_of guard) rows ≡ find (is_rival_of guard) rows
  found_rival [] fall there = absurd there
  found_rival (y ∷ ys) fall there =
      by (has_name_of guard y) refl (no_shorter there) (λ other. found_rival ys fall.1 (behind other there))
    where
      no_shorter : IsIn guard (y ∷ ys) → path_length guard ≤ path_length y
      no_shorter (inl e) = let same : path_length guard ≡ path_length y = ap path_length e in omega (arith, same)
      no_shorter (inr h) = at_one (λ later. path_length later ≤ path_length y) guard ys h fall.0

      behind : has_name_of guard y ≡ false → IsIn guard (y ∷ ys) → IsIn guard ys
      behind other (inl e) =
          absurd (both_ways (has_name_of guard y) other (sym (ap (has_name_of guard) e) ∙ own_name))
      behind other (inr h) = h

      by : (b : Bool) → has_name_of guard y ≡ b → path_length guard ≤ path_length y
          → (has_name_of guard y ≡ false → find (has_name_of guard) ys ≡ find (is_rival_of guard) ys)
          → find (has_name_of guard) (y ∷ ys) ≡ find (is_rival_of guard) (y ∷ ys)
      by true passes le later = rw (passes, le-leb (path_length guard) (path_length y) le) refl
      by false other le later = rw other (later other)

  -- where its path is one byte, all rows of its name that have a path are rivals
  root_rivals : path_length guard ≡ 1 → (rows : List Row) → AllByRecursion (λ y. 0 < path_length y) rows
      → filter (has_name_of guard) rows ≡ filter (is_rival_of guard) rows
  root_rivals one rows all =
      filter_same (has_name_of guard) (is_rival_of guard) rows
      (all_weaker (λ y. 0 < path_length y) (λ y. has_name_of guard y ≡ is_rival_of guard y)
      (λ y h. sym (ap (λ b. has_name_of guard y && b)
      (le-leb (path_length guard) (path_length y) (omega (arith, one, h))) ∙ and_true (has_name_of guard y)))
      rows all)

-- ---- the law

all_both : (P Q : Row → Type 0) (rows : List Row) → AllByRecursion P rows → AllByRecursion Q rows
    → AllByRecursion (λ y. P y × Q y) rows
all_both P Q [] all too = tt
all_both P Q (y ∷ ys) all too = ((all.0, too.0), all_both P Q ys all.1 too.1)

-- each row that a request is given is so, and is one of the rows
given_each : (rows given ordered : List Row) (to : Parts) (at : ℤ) → AreGiven rows to at given
    → AreLongestFirst given ordered → AllByRecursion (λ y. IsGiven y to at × IsIn y rows) ordered
given_each rows given ordered to at are first =
    ordered_all (λ y. IsGiven y to at × IsIn y rows) given ordered first
    (picked_each (λ y. IsGiven y to at) (λ y. IsIn y rows) rows given (each_in rows) are)

given_paths : (rows given ordered : List Row) (to : Parts) (at : ℤ) → AreGiven rows to at given
    → AreLongestFirst given ordered → AllByRecursion (λ y. 0 < path_length y) ordered
given_paths rows given ordered to at are first =
    all_weaker (λ y. IsGiven y to at × IsIn y rows) (λ y. 0 < path_length y) (λ y h. h.0.path) ordered
    (given_each rows given ordered to at are first)

pub protected_rows_stand : ProtectedRowsStand
protected_rows_stand rules list rows url now lines outcomes new from_http overlay insecure takes to at before after
    valid (olds, old, first) (news, newer, second) =
    all_weaker (λ y. (IsGiven y to at × IsIn y rows) × IsIn y before)
    (λ y. IsTrue (is_protected now y) → StandsAsBefore y before after) (λ y h. stands y h.0.0 h.0.1 h.1) before
    (all_both (λ y. IsGiven y to at × IsIn y rows) (λ y. IsIn y before) before
    (given_each rows olds before to at old first) (each_in before))
  where
    stands : (y : Row) → IsGiven y to at → IsIn y rows → IsIn y before → IsTrue (is_protected now y)
        → StandsAsBefore y before after
    stands y given there stood protected =
        let back =
        lines_pick rules from_http overlay list url now insecure (λ z. IsGiven z to at × (is_rival_of y z ≡ true)) y
        protected (rival_covers now to at valid y protected given) rows new (filter (is_rival_of y) news) lines outcomes
        takes there (picks_narrow (λ z. IsGiven z to at) (is_rival_of y) new news newer) in
        let same : filter (is_rival_of y) news ≡ filter (is_rival_of y) olds =
        picks_once (λ z. IsGiven z to at × (is_rival_of y z ≡ true)) rows (filter (is_rival_of y) news)
        (filter (is_rival_of y) olds) back (picks_narrow (λ z. IsGiven z to at) (is_rival_of y) rows olds old) in
        let rivals : filter (is_rival_of y) after ≡ filter (is_rival_of y) before =
        first_once (is_rival_of y) news olds after before second first same in
        let stays : IsIn y after =
        out_filter (is_rival_of y) y after
        (subst (IsIn y) (sym rivals) (in_filter (is_rival_of y) y before (own_rival y) stood)) in
        record {
          rivals = rivals;
          first = found_rival y after second.fall stays
              ∙ (found_front (is_rival_of y) after
              ∙ (ap front_of rivals
              ∙ (sym (found_front (is_rival_of y) before) ∙ sym (found_rival y before first.fall stood))));
          root = λ one. root_rivals y one after (given_paths new news after to at newer second)
              ∙ (rivals ∙ sym (root_rivals y one before (given_paths rows olds before to at old first)));
        }
