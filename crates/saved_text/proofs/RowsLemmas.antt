-- The rows of a list of RON.
use Rattle.std.specs.Prelude.{Option, Some, None, false}
use Rattle.std.proofs.Common.{
  ◌≡◌,
  ℕ,
  suc,
  ◌+◌,
  ◌<◌,
  ◌++◌,
  List,
  [],
  ◌∷◌,
  refl,
  sym,
  ap,
  ◌∙◌,
  arith,
  subst,
  append_assoc,
  length,
  length-append,
  Bor,
}
use Rattle.std.proofs.lemmas.List.{append-nil}
use Rattle.std.proofs.lemmas.Bool.{ne_eqb}
use Rattle.std.specs.Option.{MatchOption}
use Rattle.saved_text.specs.Grammar.{Grammar, Word}
use Rattle.saved_text.specs.Grammar.Grammar.{nothing, space, sign, seq, either, many}
use Rattle.saved_text.specs.Reads.{Takes}
use Rattle.saved_text.specs.Faults.{StopsAs, BeginsOtherwise, Spaced}
use Rattle.saved_text.specs.Ron.{comma, optional, row, list, ◌▹◌, ◌·◌}
use Rattle.saved_text.specs.Row.{Shown}
use Rattle.saved_text.specs.RowWords.{SaysRow, SaysRows}
use Rattle.saved_text.specs.Saved.{IsShown}
use Rattle.saved_text.specs.JsonReading.{IsReadable, AreShown}
use Rattle.saved_text.specs.Drafts.{Marks, IsRowRead, IsListed, IsListRead, drafted}
use Rattle.saved_text.specs.declared.ron_text.Stop.{Stop}
use Rattle.saved_text.specs.declared.ron_drafts.Draft.{Draft}
use Rattle.saved_text.specs.declared.row.SavedRow.{SavedRow}
use Rattle.saved_text.proofs.StepLemmas.{
  nullable,
  Misses,
  misses_seq,
  Same,
  Same-trans,
  Same-sym,
  Same-assoc,
  Same-either,
  seq_parts,
  Leads-trans,
  Leads-same,
  Leads-nothing,
  Leads-only,
}
use Rattle.saved_text.proofs.RonLemmas.{Goes, Goes-from, Goes-trans, Goes-same, StopsAs-behind, StopsAs-first}
use Rattle.saved_text.proofs.RowLemmas.{Goes-part, Goes-else, Goes-assoc, Takes-cut}
use Rattle.saved_text.proofs.ListLemmas.{seq_left, end, item, others, others_is}
use Rattle.saved_text.proofs.FieldLemmas.{
  Goes-leads,
  Goes-inside,
  Goes-silent,
  Takes-silent,
  StopsAs-within,
  whole_both,
  Unreads-first,
}
use Rattle.saved_text.proofs.DraftLemmas.{marks_more, sign_split}
use Rattle.saved_text.proofs.JsonReadLemmas.{shown_more}

-- ---- choices that the next byte makes

Goes-only : (a b : Grammar) (text : List ℕ) → nullable b ≡ false → Misses b text → Goes (either a b) text [] a text
unfolding Goes
Goes-only a b text n m h =
    Leads-trans (seq (either a b) h) (either (seq a h) (seq b h)) (seq a h) text text text [] []
    (Leads-same (seq (either a b) h) (either (seq a h) (seq b h)) text (Same-either a b h))
    (Leads-only (seq a h) (seq b h) text (misses_seq b h text n m))

Goes-nothing : (k : Grammar) (text : List ℕ) → Goes (seq nothing k) text [] k text
unfolding Goes
Goes-nothing k text h =
    Leads-trans (seq (seq nothing k) h) (seq nothing (seq k h)) (seq k h) text text text [] []
    (Leads-same (seq (seq nothing k) h) (seq nothing (seq k h)) text (Same-assoc nothing k h))
    (Leads-nothing (seq k h) text)

Goes-alike : (g k : Grammar) (text : List ℕ) → Same g k → Goes g text [] k text
Goes-alike g k text e = Goes-same g k text (λ h. seq_left g k h e)

-- the bracket isn't next
misses_end : (text : List ℕ) → BeginsOtherwise 93 text → Misses end text
misses_end [] l = refl
misses_end (c ∷ r) l = ne_eqb c 93 l

misses_bare_end : (text : List ℕ) → BeginsOtherwise 93 text → Misses (seq nothing end) text
misses_bare_end [] l = refl
misses_bare_end (c ∷ r) l = ne_eqb c 93 l

-- ---- the rows of a list

abbrev some_rows : Grammar
some_rows = row ▹ many (comma ▹ row · space) · optional (comma · space)

abbrev opened : Grammar
opened = seq (either some_rows nothing) end

abbrev next_or_end : Grammar
next_or_end = either (seq item others) end

abbrev pub comma_on : Grammar
comma_on = seq comma (seq space (either (seq item others) end))

rows_alike : Same (seq some_rows end) (seq item others)
rows_alike =
    let M : Grammar = many (comma ▹ row · space) in
    let O : Grammar = optional (comma · space) in
    Same-trans (seq some_rows end) (seq row (seq (seq space (seq M O)) end)) (seq item others)
    (Same-assoc row (seq space (seq M O)) end)
    (Same-trans (seq row (seq (seq space (seq M O)) end)) (seq row (seq space others)) (seq item others)
    (seq_parts row (seq (seq space (seq M O)) end) (seq space others)
    (Same-trans (seq (seq space (seq M O)) end) (seq space (seq (seq M O) end)) (seq space others)
    (Same-assoc space (seq M O) end) (seq_parts space (seq (seq M O) end) others (Same-assoc M O end))))
    (Same-sym (seq item others) (seq row (seq space others)) (Same-assoc row space others)))

pub list_opens : (text a b : List ℕ) → Takes (sign (91 ∷ [])) text [] a → Spaced a b
    → Goes list text [] (seq (either (row ▹ many (comma ▹ row · space) · optional (comma · space)) nothing) end) b
list_opens text a b l s = Goes-part (sign (91 ∷ [])) opened text a b [] refl refl l s

opened_end : (b c : List ℕ) → b ≡ 93 ∷ c → Goes opened b [] end b
opened_end b c e = subst (λ t. Goes opened t [] end t) (sym e)
    (Goes-trans opened (seq nothing end) end (93 ∷ c) (93 ∷ c) (93 ∷ c) [] []
    (Goes-inside (either some_rows nothing) nothing end (93 ∷ c) (93 ∷ c) []
    (Goes-else some_rows nothing (93 ∷ c) refl refl)) (Goes-nothing end (93 ∷ c)))

opened_row : (b : List ℕ) → BeginsOtherwise 93 b → Goes opened b [] (seq item others) b
opened_row b l =
    Goes-trans opened (either (seq some_rows end) (seq nothing end)) (seq item others) b b b [] []
    (Goes-alike opened (either (seq some_rows end) (seq nothing end)) b (Same-either some_rows nothing end))
    (Goes-trans (either (seq some_rows end) (seq nothing end)) (seq some_rows end) (seq item others) b b b [] []
    (Goes-only (seq some_rows end) (seq nothing end) b refl (misses_bare_end b l))
    (Goes-alike (seq some_rows end) (seq item others) b rows_alike))

item_taken : (rest behind next : List ℕ) (s : List Word) → Takes row rest s behind → Spaced behind next
    → Goes (seq item others) rest s others next
item_taken rest behind next s l p = Goes-trans (seq item others) (seq row (seq space others)) others rest rest next []
    s (Goes-assoc row space others rest) (Goes-part row others rest behind next s refl refl l p)

others_end : (next c : List ℕ) → next ≡ 93 ∷ c → Goes others next [] end next
others_end next c e = subst (λ t. Goes others t [] end t) (sym e)
    (Goes-trans others (either comma_on (seq nothing end)) end (93 ∷ c) (93 ∷ c) (93 ∷ c) [] []
    (Goes-alike others (either comma_on (seq nothing end)) (93 ∷ c) others_is)
    (Goes-trans (either comma_on (seq nothing end)) (seq nothing end) end (93 ∷ c) (93 ∷ c) (93 ∷ c) [] []
    (Goes-else comma_on (seq nothing end) (93 ∷ c) refl refl) (Goes-nothing end (93 ∷ c))))

others_comma : (next : List ℕ) → BeginsOtherwise 93 next → Goes others next [] comma_on next
others_comma next l =
    Goes-trans others (either comma_on (seq nothing end)) comma_on next next next [] []
    (Goes-alike others (either comma_on (seq nothing end)) next others_is)
    (Goes-only comma_on (seq nothing end) next refl (misses_bare_end next l))

comma_item : (next c m : List ℕ) → BeginsOtherwise 93 next → Takes (sign (44 ∷ [])) next [] c → Spaced c m
    → Goes others next [] next_or_end m
comma_item next c m l t s = Goes-trans others comma_on next_or_end next next m [] [] (others_comma next l)
    (Goes-part comma next_or_end next c m [] refl refl t s)

choice_end : (m c : List ℕ) → m ≡ 93 ∷ c → Goes next_or_end m [] end m
choice_end m c e = subst (λ t. Goes next_or_end t [] end t) (sym e) (Goes-else (seq item others) end (93 ∷ c) refl refl)

choice_item : (m : List ℕ) → BeginsOtherwise 93 m → Goes next_or_end m [] (seq item others) m
choice_item m l = Goes-only (seq item others) end m refl (misses_end m l)

-- ---- what the rows say

says_more : (ts : List Shown) (t : Shown) (s w : List Word) → SaysRows ts s → SaysRow t w
    → SaysRows (ts ++ t ∷ []) (s ++ w)
says_more [] t s w e r = (w, [], r, refl, ap (λ q. q ++ w) e ∙ sym (append-nil w))
says_more (x ∷ ts) t s w e r = (
  e.0,
  e.1 ++ w,
  e.2,
  says_more ts t e.1 w e.3 r,
  ap (λ q. q ++ w) e.4
      ∙ append_assoc e.0 e.1 w,
)

row_marks : (rest : List ℕ) (w : List Word) (holds more : Type 0) (u : Option (Bor (List ℕ))) → (holds → more)
    → Marks row rest w holds u → Marks (seq item others) rest w more u
row_marks rest w holds more None f m = (m.0, f m.1)
row_marks rest w holds more (Some q) f m = Unreads-first item others rest q.now (Unreads-first row space rest q.now m)

-- ---- how far a list was read

listed_goes : (text rest : List ℕ) (rows : List SavedRow) (u : Option (Bor (List ℕ))) (k : Grammar)
    → (i : IsListed text rows u k rest) → Goes list text i.said k rest
listed_goes text rest rows u k i = Goes-from list text i.said k rest i.leads

-- a step that says nothing
pub listed_on : (text rest next : List ℕ) (rows : List SavedRow) (u : Option (Bor (List ℕ))) (k m : Grammar)
    → IsListed text rows u k rest → Goes k rest [] m next → IsListed text rows u m next
listed_on text rest next rows u k m i g = record {
  shown = i.shown;
  said = i.said;
  says = i.says;
  whole = i.whole;
  leads = Goes-leads list m text next i.said
      (Goes-silent list k m text rest next i.said (listed_goes text rest rows u k i) g);
  marks = i.marks;
}

listed_none : (text b : List ℕ) (k : Grammar) (rows : List SavedRow) → rows ≡ [] → Goes list text [] k b
    → IsListed text rows None k b
listed_none text b k rows e g = record {
  shown = [];
  said = [];
  says = refl;
  whole = tt;
  leads = Goes-leads list k text b [] g;
  marks = (tt, subst (AreShown []) (sym e) tt);
}

pub listed_more : (text rest behind next : List ℕ) (rows after : List SavedRow) (x : SavedRow)
    (u v r : Option (Bor (List ℕ))) (d : Draft) → IsListed text rows u (seq item others) rest
    → IsRowRead row rest d v behind → Spaced behind next
    → MatchOption u (r ≡ v) (λ q. r ≡ Some q) → (IsReadable (drafted d) → IsShown (drafted d) x)
    → after ≡ rows ++ x ∷ [] → IsListed text after r others next
listed_more text rest behind next rows after x u v r d i a s m f e =
    let g = listed_goes text rest rows u (seq item others) i in
    subst (λ q. IsListed text q r others next) (sym e) record {
      shown = i.shown ++ drafted d ∷ [];
      said = i.said ++ a.said;
      says = says_more i.shown (drafted d) i.said a.said i.says a.says;
      whole = whole_both i.said a.said i.whole a.whole;
      leads = Goes-leads list others text next (i.said ++ a.said)
          (Goes-trans list (seq item others) others text rest next i.said a.said g
          (item_taken rest behind next a.said a.takes s));
      marks = marks_more list (seq item others) text rest i.said a.said (AreShown i.shown rows)
          (AreShown (i.shown ++ drafted d ∷ []) (rows ++ x ∷ [])) u v r g i.whole a.whole m i.marks
          (row_marks rest a.said (IsReadable (drafted d))
          (AreShown i.shown rows → AreShown (i.shown ++ drafted d ∷ []) (rows ++ x ∷ [])) v
          (λ y z. shown_more i.shown rows (drafted d) x z (f y)) a.marks);
    }

closed : (text next c : List ℕ) (rows : List SavedRow) (u : Option (Bor (List ℕ))) → IsListed text rows u end next
    → next ≡ 93 ∷ c → IsListRead list text rows u c
closed text next c rows u i e = record {
  shown = i.shown;
  said = i.said;
  says = i.says;
  takes = Takes-silent list end text next c i.said (listed_goes text next rows u end i) (Takes-cut 93 next c e);
  marks = i.marks;
}

pub list_empty : (text a b c : List ℕ) (rows : List SavedRow) → rows ≡ [] → Takes (sign (91 ∷ [])) text [] a
    → Spaced a b → b ≡ 93 ∷ c → IsListRead list text rows None c
list_empty text a b c rows n l s e = closed text b c rows None
    (listed_none text b end rows n (Goes-trans list opened end text b b [] [] (list_opens text a b l s)
    (opened_end b c e))) e

pub list_begins : (text a b : List ℕ) (rows : List SavedRow) → rows ≡ [] → Takes (sign (91 ∷ [])) text [] a
    → Spaced a b → BeginsOtherwise 93 b → IsListed text rows None (seq item others) b
list_begins text a b rows n l s e = listed_none text b (seq item others) rows n
    (Goes-trans list opened (seq item others) text b b [] [] (list_opens text a b l s) (opened_row b e))

pub list_ends : (text next c : List ℕ) (rows : List SavedRow) (u : Option (Bor (List ℕ)))
    → IsListed text rows u others next → next ≡ 93 ∷ c → IsListRead list text rows u c
list_ends text next c rows u i e = closed text next c rows u
    (listed_on text next next rows u others end i (others_end next c e)) e

pub list_ends_behind_comma : (text next c m d : List ℕ) (rows : List SavedRow) (u : Option (Bor (List ℕ)))
    → IsListed text rows u others next → BeginsOtherwise 93 next → Takes (sign (44 ∷ [])) next [] c → Spaced c m
    → m ≡ 93 ∷ d
    → IsListRead list text rows u d
list_ends_behind_comma text next c m d rows u i l t s e =
    closed text m d rows u (listed_on text m m rows u next_or_end end
    (listed_on text next m rows u others next_or_end i (comma_item next c m l t s)) (choice_end m d e)) e

pub list_goes_on : (text next c m : List ℕ) (rows : List SavedRow) (u : Option (Bor (List ℕ)))
    → IsListed text rows u others next → BeginsOtherwise 93 next → Takes (sign (44 ∷ [])) next [] c → Spaced c m
    → BeginsOtherwise 93 m
    → IsListed text rows u (seq item others) m
list_goes_on text next c m rows u i l t s e =
    listed_on text m m rows u next_or_end (seq item others)
    (listed_on text next m rows u others next_or_end i (comma_item next c m l t s)) (choice_item m e)

pub row_stops : (text rest : List ℕ) (rows : List SavedRow) (u : Option (Bor (List ℕ))) (e : Stop)
    → IsListed text rows u (seq item others) rest → StopsAs row rest e → StopsAs list text e
row_stops text rest rows u e i l =
    StopsAs-behind list (seq item others) text rest i.said e (listed_goes text rest rows u (seq item others) i)
    (StopsAs-first item others rest e (StopsAs-first row space rest e l))

pub comma_stops : (text next : List ℕ) (rows : List SavedRow) (u : Option (Bor (List ℕ))) (e : Stop)
    → IsListed text rows u others next → BeginsOtherwise 93 next → StopsAs (sign (44 ∷ [])) next e → StopsAs list text e
comma_stops text next rows u e i l s =
    StopsAs-behind list others text next i.said e (listed_goes text next rows u others i)
    (StopsAs-within others comma (seq space next_or_end) next next [] e (others_comma next l) s)

pub row_shorter : (rest behind next c m : List ℕ) (d : Draft) (v : Option (Bor (List ℕ)))
    → IsRowRead row rest d v behind → Spaced behind next → Takes (sign (44 ∷ [])) next [] c → Spaced c m
    → length m < length rest
row_shorter rest behind next c m d v a s t n =
    let l = a.takes nothing in
    let first : length rest ≡ length l.x + length behind = ap length l.split ∙ length-append l.x behind in
    let second : length behind ≡ length s.0 + length next = ap length s.2 ∙ length-append s.0 next in
    let third : length next ≡ suc (length c) = ap length (sign_split (44 ∷ []) next c [] t) in
    let fourth : length c ≡ length n.0 + length m = ap length n.2 ∙ length-append n.0 m in
    omega (arith, first, second, third, fourth)
