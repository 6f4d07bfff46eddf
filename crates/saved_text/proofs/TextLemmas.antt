-- A whole text of RON.
use Rattle.std.specs.Prelude.{Option, Some, None}
use Rattle.std.proofs.Common.{
  inl,
  inr,
  ◌≡◌,
  ℕ,
  ◌+◌,
  ◌-◌,
  ◌≤◌,
  ◌++◌,
  List,
  [],
  ◌∷◌,
  refl,
  sym,
  ap,
  ◌∙◌,
  arith,
  subst,
  length,
  length-append,
  Bor,
}
use Rattle.std.proofs.lemmas.List.{append-nil}
use Rattle.std.specs.Str.{IsUtf8}
use Rattle.saved_text.specs.Grammar.{Grammar, Word, IsOf}
use Rattle.saved_text.specs.Grammar.Grammar.{nothing, space, seq}
use Rattle.saved_text.specs.Grammar.Word.{the_name}
use Rattle.saved_text.specs.Reads.{Leads, Stuck}
use Rattle.saved_text.specs.Faults.{StopsAs, Spaced}
use Rattle.saved_text.specs.Ron.{string, list, ron}
use Rattle.saved_text.specs.RonReading.{IsUnreadAt, IsRonFaultAt, ShowsNoRows, ShowsRowsInRon, AreRead}
use Rattle.saved_text.specs.Words.{string_words}
use Rattle.saved_text.specs.JsonReading.{AreShown}
use Rattle.saved_text.specs.Drafts.{Unreads, Marks, IsListRead, IsTextRead, StopsText}
use Rattle.saved_text.specs.declared.ron_text.Stop.{Stop}
use Rattle.saved_text.specs.declared.ron_text.Stop.TheVariants as stop
use Rattle.saved_text.specs.declared.row.SavedRow.{SavedRow}
use Rattle.saved_text.proofs.StepLemmas.{Same-nothing, Leads-trans, Stuck-behind, Stuck-at}
use Rattle.saved_text.proofs.RonLemmas.{Goes, Goes-trans, Goes-first}
use Rattle.saved_text.proofs.RowLemmas.{Goes-spaces, Leads-spaces}
use Rattle.saved_text.proofs.FieldLemmas.{Goes-leads, StopsAs-within, Unreads-silent, Unreads-first}
use Rattle.saved_text.proofs.ReadableLemmas.{rows_read, read_behind}
use Rattle.saved_text.specs.Row.{Shown}
use Rattle.saved_text.specs.RowWords.{SaysRows, ShowsRon}
use Rattle.saved_text.proofs.OneLemmas.{rows_one}
use Rattle.saved_text.proofs.FrontLemmas.{fault_at}

-- ---- white space, the list, white space

text_opens : (text start : List ℕ) → Spaced text start → Goes ron text [] (seq list space) start
text_opens text start s = Goes-spaces (seq list space) text start refl refl s

pub list_stops : (text start : List ℕ) (e : Stop) → Spaced text start → StopsAs list start e → StopsText text e
list_stops text start (stop.Here r) s l = StopsAs-within ron list space text start [] (stop.Here r)
    (text_opens text start s) l nothing
list_stops text start stop.OutOfMemory s l = tt

text_led : (text start r rest : List ℕ) (rows : List SavedRow) (u : Option (Bor (List ℕ))) → Spaced text start
    → (i : IsListRead list start rows u r) → Spaced r rest → Leads (seq ron nothing) text i.said nothing rest
text_led text start r rest rows u s i t =
    let listed : Leads (seq ron nothing) text i.said (seq space nothing) r =
    Goes-leads ron space text r i.said
    (Goes-trans ron (seq list space) space text start r [] i.said (text_opens text start s)
    (Goes-first list space start r i.said i.takes)) nothing in
    let spaced : Leads (seq space nothing) r [] nothing rest =
    subst (λ q. Leads (seq space nothing) q [] nothing rest) (sym t.2)
    (Leads-spaces nothing refl t.0 rest t.1 t.3) in
    subst (λ w. Leads (seq ron nothing) text w nothing rest) (append-nil i.said)
    (Leads-trans (seq ron nothing) (seq space nothing) nothing text r rest i.said [] listed spaced)

text_marks : (text start : List ℕ) (said : List Word) (holds : Type 0) (u : Option (Bor (List ℕ))) → Spaced text start
    → Marks list start said holds u → Marks ron text said holds u
text_marks text start said holds None s m = m
text_marks text start said holds (Some q) s m = Unreads-silent ron (seq list space) text start q.now
    (text_opens text start s) (Unreads-first list space start q.now m)

whole_led : (g : Grammar) (text rest : List ℕ) (said : List Word) → Leads (seq g nothing) text said nothing rest
    → length rest ≡ 0 → IsOf g text said
whole_led g text [] said l e =
    (Same-nothing g).down text said
    (subst (λ t. IsOf (seq g nothing) t said) (sym l.split)
    (subst (IsOf (seq g nothing) (l.x ++ [])) (append-nil said) (l.up [] [] (refl, refl))))
whole_led g text (b ∷ rest) said l e = absurd (omega (arith, e))

only_led : (g : Grammar) (text rest : List ℕ) (said : List Word) → Leads (seq g nothing) text said nothing rest
    → (other : List Word) → IsOf g text other → other ≡ said
only_led g text rest said l other o =
    let p = l.down other ((Same-nothing g).up text other o) in
    p.2 ∙ ap (λ w. said ++ w) p.1.1 ∙ append-nil said

pub text_read : (text start r rest : List ℕ) (rows : List SavedRow) (u : Option (Bor (List ℕ))) → Spaced text start
    → IsListRead list start rows u r → Spaced r rest → length rest ≡ 0 → IsTextRead text rows u
text_read text start r rest rows u s i t e = record {
  shown = i.shown;
  said = i.said;
  says = i.says;
  is = whole_led ron text rest i.said (text_led text start r rest rows u s i t) e;
  only = only_led ron text rest i.said (text_led text start r rest rows u s i t);
  marks = text_marks text start i.said (AreShown i.shown rows) u s i.marks;
}

more_stuck : (rest : List ℕ) → (length rest ≡ 0 → ⊥) → Stuck nothing rest rest
more_stuck [] n = absurd (n refl)
more_stuck (b ∷ r) n = Stuck-at nothing (b ∷ r) refl

pub text_stops : (text start r rest : List ℕ) (rows : List SavedRow) (u : Option (Bor (List ℕ))) → Spaced text start
    → IsListRead list start rows u r → Spaced r rest → (length rest ≡ 0 → ⊥) → Stuck (seq ron nothing) text rest
text_stops text start r rest rows u s i t n = Stuck-behind (seq ron nothing) nothing text rest rest i.said
    (text_led text start r rest rows u s i t) (more_stuck rest n)

-- ---- faults

pub text_fault : (text rest : List ℕ) → Stuck (seq ron nothing) text rest → IsUtf8 rest
    → IsRonFaultAt text (length text - length rest)
text_fault text rest s u =
    let f = fault_at (seq ron nothing) text rest s u in
    let none : (w : List Word) → ¬ IsOf ron text w = λ w o. f.0 w ((Same-nothing ron).up text w o) in (
      λ shown h a. none h.0 h.1,
      inl (
        none,
        record {
          fits = f.1.fits;
          front = (Same-nothing ron).front_down _ f.1.front;
          longest = λ m b g. f.1.longest m b ((Same-nothing ron).front_up _ g);
        },
        f.2,
      ),
    )

pub unread_fits : (g : Grammar) (text q : List ℕ) → Unreads g text q → length q ≤ length text
unread_fits g text q u =
    let l = (u.leads nothing).1 in
    let all : length text ≡ length l.x + length q = ap length l.split ∙ length-append l.x q in
    omega (arith, all)

pub unread_at : (text q : List ℕ) (said : List Word) → Unreads ron text q → IsOf ron text said
    → IsUnreadAt text (length text - length q)
unread_at text q said u o =
    let next = (u.leads nothing).0 in
    let l = (u.leads nothing).1 in
    let t = u.string nothing in
    let behind = l.down said ((Same-nothing ron).up text said o) in
    let rest = (u.string next).down behind.0 behind.1 in
    let all : length text ≡ length l.x + length q = ap length l.split ∙ length-append l.x q in
    let b = u.before ++ the_name u.name ∷ [] in
    record {
      before = u.before;
      name = u.name;
      value = u.value;
      behind = rest.0;
      place = record {
        x = l.x;
        quoted = t.x;
        z = u.behind;
        split = l.split ∙ ap (λ r. l.x ++ r) t.split;
        place = omega (arith, all);
        said = (Same-nothing string).down t.x (string_words u.value)
            (subst (λ r. IsOf (seq string nothing) r (string_words u.value)) (append-nil t.x)
            (subst (IsOf (seq string nothing) (t.x ++ [])) (append-nil (string_words u.value))
            (t.up [] [] (refl, refl))));
        stands = λ other v s. (Same-nothing ron).down (l.x ++ (other ++ u.behind)) (b ++ (string_words v ++ rest.0))
            (l.up (other ++ u.behind) (string_words v ++ rest.0)
            (other, u.behind, string_words v, rest.0, s, rest.1, refl, refl));
      };
      first = u.first;
      unread = u.unread;
    }

-- A text with a string that doesn't read shows no rows that read.
shows_none : (text q : List ℕ) → Unreads ron text q → ShowsNoRows text
shows_none text q u shown h a =
    let l = (u.leads nothing).1 in
    let behind = l.down h.0 ((Same-nothing ron).up text h.0 h.1) in
    let rest = (u.string (u.leads nothing).0).down behind.0 behind.1 in
    let b = u.before ++ the_name u.name ∷ [] in
    u.unread (read_behind [] [] u.before u.name u.value rest.0
    (subst (AreRead [] []) (behind.2 ∙ ap (λ w. b ++ w) rest.2) (rows_read shown h.0 h.2 a).0))

pub text_rows : (text : List ℕ) (rows : List SavedRow) → IsTextRead text rows None → ShowsRowsInRon text rows
text_rows text rows i =
    let only : (others : List Shown) → ShowsRon text others → others ≡ i.shown =
    λ others h. rows_one others i.shown i.said (subst (SaysRows others) (i.only h.0 h.1) h.2) i.says in
    (i.shown, ((i.said, i.is, i.says), only), i.marks.1)

pub text_unread : (text : List ℕ) (rows : List SavedRow) (q : Bor (List ℕ)) → IsTextRead text rows (Some q)
    → IsRonFaultAt text (length text - length q.now)
text_unread text rows q i = (shows_none text q.now i.marks, inr (unread_at text q.now i.said i.marks i.is))

pub text_unread_fits : (text : List ℕ) (rows : List SavedRow) (q : Bor (List ℕ)) → IsTextRead text rows (Some q)
    → length q.now ≤ length text
text_unread_fits text rows q i = unread_fits ron text q.now i.marks
