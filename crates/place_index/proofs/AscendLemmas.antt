-- Starts that ascend, each of a text of its own.
use Rattle.std.proofs.Common.{◌≡◌, ◌+◌, ◌-◌, ◌&&◌, ◌++◌, ◌<◌, ◌≤◌, ℕ, zero, suc, Bool, true, false, cond, List, [], ◌∷◌}
use Rattle.std.proofs.Common.{length}
use Rattle.std.proofs.Common.{map, get_or, length-append, refl, sym, ap, subst, ◌∙◌, ◌⊎◌, inl, inr, arith, true≢false}
use Rattle.std.proofs.Common.{leb, ltb}
use Rattle.std.proofs.Common.{leb-false, leb-true, ltb-false, ltb-true}
use Rattle.std.specs.Prelude.{All, Err, IfSome, Ok, OnErr, OnOk, Result, Some, None, nat_le, nat_lt, option_map}
use Rattle.std.specs.List.{remove}
use Rattle.std.specs.List.Sorted.{IsNonDecreasing, IsPartitionPoint}
use Rattle.std.specs.Str.{bytes_eq}
use Rattle.std.proofs.lemmas.Bool.{and_right, cases_lt, cond-false, cond-true, false_from_ne_true}
use Rattle.std.proofs.lemmas.Grind.{common_steps}
use Rattle.std.proofs.lemmas.List.{get_or-map, length-map}
use Rattle.std.proofs.lemmas.List.Edits.{get_or-remove_above, get_or-remove_below}
use Rattle.std.proofs.lemmas.List.Elements.{All-from_get_or, All-get_or}
use Rattle.std.proofs.lemmas.List.Sorted.{IsNonDecreasingBy-from_default, IsNonDecreasingBy-push}
use Rattle.std.proofs.lemmas.Option.{none-some}
use Rattle.indexmap.specs.IndexMap.{set_value_at}
use Rattle.indexmap.specs.Layout.{length-set_value_at}
use Rattle.place_index.specs.Entries.{HaveOwnTexts, place_of, value_at, with_value, without}
use Rattle.place_index.specs.Index.{DomainAgrees, Index, PartsAgree, last, moved, part_at}
use Rattle.place_index.specs.Places.{Place}
use Rattle.place_index.specs.Putting.{IsReady}
use Rattle.place_index.specs.Starts.{AreInOrder, with_starts}
use Rattle.place_index.specs.Taking.{moved_back}
use Rattle.place_index.specs.declared.part.DomainRows.{DomainRows}
use Rattle.place_index.specs.declared.part.PathRows.{PathRows}
use Rattle.place_index.specs.PathParts.{BeginBefore, path_at}
use Rattle.place_index.proofs.EntryLemmas.{same_text, text_is}
use Rattle.place_index.proofs.IndexLemmas.{moved_up, not_moved, value_at-with_other}
use Rattle.place_index.proofs.IndexOutLemmas.{not_back, one_back}
use Rattle.place_index.proofs.StartLemmas.{first_mapped, none_found, part_added, place_within, remove-length}
use Rattle.place_index.proofs.StartLemmas.{still_none}
use Rattle.place_index.proofs.StartLemmas.{with_value-length, without-length}

-- ---- entries, each of a text of its own

module _ {V : Type 0} where
  none_set : (text : List ℕ) (es : List (List ℕ × V)) (i : ℕ) (w : V) → value_at text es ≡ None
      → value_at text (set_value_at es i w) ≡ None
  none_set text [] i w none = refl
  none_set text (e ∷ es) zero w none = by (bytes_eq text e.0) none
    where
      by : (b : Bool) → cond b (Some e.1) (value_at text es) ≡ None → cond b (Some w) (value_at text es) ≡ None
      by true n = absurd (none-some e.1 (sym n))
      by false n = n
  none_set text (e ∷ es) (suc i) w none = by (bytes_eq text e.0) none (none_set text es i w)
    where
      by : (b : Bool) → cond b (Some e.1) (value_at text es) ≡ None
          → (value_at text es ≡ None → value_at text (set_value_at es i w) ≡ None)
          → cond b (Some e.1) (value_at text (set_value_at es i w)) ≡ None
      by true n rest = absurd (none-some e.1 (sym n))
      by false n rest = rest n

  pub own_texts-set : (es : List (List ℕ × V)) (i : ℕ) (w : V) → HaveOwnTexts es → HaveOwnTexts (set_value_at es i w)
  own_texts-set [] i w own = tt
  own_texts-set (e ∷ es) zero w own = own
  own_texts-set (e ∷ es) (suc i) w own = (none_set e.0 es i w own.0, own_texts-set es i w own.1)

  module _ (key : List ℕ) where
    none_without : (text : List ℕ) (es : List (List ℕ × V)) → value_at text es ≡ None
        → value_at text (without key es) ≡ None
    none_without text [] none = refl
    none_without text (e ∷ es) none = by (bytes_eq key e.0) (bytes_eq text e.0) refl none (none_without text es)
      where
        by : (b c : Bool) → bytes_eq text e.0 ≡ c → cond c (Some e.1) (value_at text es) ≡ None
            → (value_at text es ≡ None → value_at text (without key es) ≡ None)
            → value_at text (cond b es (e ∷ without key es)) ≡ None
        by b true is n rest = absurd (none-some e.1 (sym n))
        by true false is n rest = n
        by false false is n rest = cond-false (bytes_eq text e.0) _ _ is ∙ rest n

    pub own_texts-without : (es : List (List ℕ × V)) → HaveOwnTexts es → HaveOwnTexts (without key es)
    own_texts-without [] own = tt
    own_texts-without (e ∷ es) own = by (bytes_eq key e.0) (own_texts-without es own.1)
      where
        by : (b : Bool) → HaveOwnTexts (without key es) → HaveOwnTexts (cond b es (e ∷ without key es))
        by true rest = own.1
        by false rest = (none_without e.0 es own.0, rest)

    pub own_texts-with_value : (es : List (List ℕ × V)) (v : V) → place_of key es ≡ None → HaveOwnTexts es
        → HaveOwnTexts (with_value es key v)
    own_texts-with_value [] v none own = (refl, tt)
    own_texts-with_value (e ∷ es) v none own =
        by (bytes_eq key e.0) refl none (λ n. own_texts-with_value es v n own.1)
      where
        by : (b : Bool) → bytes_eq key e.0 ≡ b → cond b (Some 0) (option_map suc (place_of key es)) ≡ None
            → (place_of key es ≡ None → HaveOwnTexts (with_value es key v))
            → HaveOwnTexts (cond b ((e.0, v) ∷ es) (e ∷ with_value es key v))
        by true is n rest = absurd (none-some 0 (sym n))
        by false is n rest =
            let other : bytes_eq e.0 key ≡ false = false_from_ne_true (bytes_eq e.0 key)
            (λ t. true≢false (sym (text_is key e.0 (sym (same_text e.0 key t))) ∙ is)) in
            (value_at-with_other key e.0 es v other ∙ own.0, rest (still_none (place_of key es) n))

-- ---- a start's part, by its text

module _ {R P : Type 0} (part : ℕ → R → P) where
  pub seen_by_text : (starts : List ℕ) (rows : List (List ℕ × R)) (i : ℕ) → length starts ≡ length rows
      → HaveOwnTexts rows → i < length starts
      → (text : List ℕ) × (own : R) ×
      (value_at text (with_starts part starts rows) ≡ Some (part (get_or starts i 0) own))
  seen_by_text [] rs i same own less = absurd (omega (arith, less))
  seen_by_text (s ∷ ss) [] i same own less = absurd (omega (arith, same))
  seen_by_text (s ∷ ss) (e ∷ es) zero same own less =
      (e.0, e.1, cond-true (bytes_eq e.0 e.0) _ _ (text_is e.0 e.0 refl))
  seen_by_text (s ∷ ss) (e ∷ es) (suc i) same own less =
      let later = seen_by_text ss es i (omega (arith, same)) own.1 (omega (arith, less)) in
      let apart : bytes_eq later.0 e.0 ≡ false = false_from_ne_true (bytes_eq later.0 e.0)
      (λ t. none-some _ (sym (none_found part e.0 ss es own.0)
      ∙ ap (λ text. value_at text (with_starts part ss es)) (sym (same_text later.0 e.0 t)) ∙ later.2)) in
      (later.0, later.1, cond-false (bytes_eq later.0 e.0) _ _ apart ∙ later.2)

-- each domain begins at a row
pub starts_within : (places : List Place) (starts : List ℕ) (domains : List (List ℕ × DomainRows))
    → length starts ≡ length domains → HaveOwnTexts domains → PartsAgree places (with_starts part_at starts domains)
    → All (λ start. start < length places) starts
starts_within places starts domains same own agrees = All-from_get_or (λ start. start < length places) starts 0
    (λ i less. by i (seen_by_text part_at starts domains i same own less))
  where
    by : (i : ℕ) → ((text : List ℕ) × (own : DomainRows)
        × (value_at text (with_starts part_at starts domains) ≡ Some (part_at (get_or starts i 0) own)))
        → get_or starts i 0 < length places
    by i (text, own, is) =
        let part = (subst (DomainAgrees places text) is (agrees text)).0 in
        let some = part.some in
        let within = part.within in
        omega (arith, some, within)

-- each path begins before a place before which all its domain's paths begin
pub paths_begin_before : (place : ℕ) (starts : List ℕ) (paths : List (List ℕ × PathRows))
    → length starts ≡ length paths → HaveOwnTexts paths → BeginBefore place (with_starts path_at starts paths)
    → All (λ start. start < place) starts
paths_begin_before place starts paths same own low = All-from_get_or (λ start. start < place) starts 0
    (λ i less. by i (seen_by_text path_at starts paths i same own less))
  where
    by : (i : ℕ) → ((text : List ℕ) × (own : PathRows)
        × (value_at text (with_starts path_at starts paths) ≡ Some (path_at (get_or starts i 0) own)))
        → get_or starts i 0 < place
    by i (text, own, is) = subst (λ o. IfSome o (λ part. part.start < place)) is (low text)

-- ---- ascending

module _ (starts : List ℕ) (ascend : IsNonDecreasing starts) where
  pub ascend-map : (f : ℕ → ℕ) → ((a b : ℕ) → a ≤ b → f a ≤ f b) → IsNonDecreasing (map f starts)
  ascend-map f rises = IsNonDecreasingBy-from_default (λ n. n) (map f starts) 0 (λ i j le less.
      let long = length-map starts f in
      let a = get_or-map f starts i 0 0 (omega (arith, le, less, long)) in
      let b = get_or-map f starts j 0 0 (omega (arith, less, long)) in
      let up = rises (get_or starts i 0) (get_or starts j 0) (ascend i j 0 le (omega (arith, less, long))) in
      omega (arith, a, b, up))

  pub ascend-remove : (k : ℕ) → k < length starts → IsNonDecreasing (remove starts k)
  ascend-remove k there = IsNonDecreasingBy-from_default (λ n. n) (remove starts k) 0 (λ i j le less.
      let long = remove-length starts k there in
      by i j le (omega (arith, less, long)) (cases_lt i k) (cases_lt j k))
    where
      by : (i j : ℕ) → i ≤ j → suc j < length starts → (i < k) ⊎ (k ≤ i) → (j < k) ⊎ (k ≤ j)
          → get_or (remove starts k) i 0 ≤ get_or (remove starts k) j 0
      by i j le less (inl a) (inl b) =
          let one = get_or-remove_below starts k 0 i a there in
          let two = get_or-remove_below starts k 0 j b there in
          let up = ascend i j 0 le (omega (arith, b, there)) in
          omega (arith, one, two, up)
      by i j le less (inl a) (inr b) =
          let one = get_or-remove_below starts k 0 i a there in
          let two = get_or-remove_above starts k 0 j b there in
          let up = ascend i (j + 1) 0 (omega (arith, le)) (omega (arith, less)) in
          omega (arith, one, two, up)
      by i j le less (inr a) (inl b) = absurd (omega (arith, a, b, le))
      by i j le less (inr a) (inr b) =
          let one = get_or-remove_above starts k 0 i a there in
          let two = get_or-remove_above starts k 0 j b there in
          let up = ascend (i + 1) (j + 1) 0 (omega (arith, le)) (omega (arith, less)) in
          omega (arith, one, two, up)

  pub ascend-push : (start : ℕ) → All (λ s. s < start) starts → IsNonDecreasing (starts ++ start ∷ [])
  ascend-push start low = IsNonDecreasingBy-push (λ n. n) starts start ascend (λ d some.
      let l = All-get_or (λ s. s < start) starts (length starts - 1) d (omega (arith, some)) low in omega (arith, l))

pub moved-rises : (p a b : ℕ) → a ≤ b → moved p a ≤ moved p b
moved-rises p a b le = by (cases_lt a p) (cases_lt b p) (cases_lt a last) (cases_lt b last)
  where
    stays : (n : ℕ) → last ≤ n → moved p n ≡ n
    stays n past = cond-false (nat_le p n && nat_lt n last) (suc n) n
        (and_right (nat_le p n) (nat_lt n last) (grind (arith, common_steps)))

    by : (a < p) ⊎ (p ≤ a) → (b < p) ⊎ (p ≤ b) → (a < last) ⊎ (last ≤ a) → (b < last) ⊎ (last ≤ b)
        → moved p a ≤ moved p b
    by (inl la) (inl lb) _ _ =
        let one = not_moved p a la in
        let two = not_moved p b lb in
        omega (arith, one, two, le)
    by (inl la) (inr lb) _ (inl low) =
        let one = not_moved p a la in
        let two = moved_up p b lb low in
        omega (arith, one, two, le)
    by (inl la) (inr lb) _ (inr past) =
        let one = not_moved p a la in
        let two = stays b past in
        omega (arith, one, two, le)
    by (inr la) (inl lb) _ _ = absurd (omega (arith, la, lb, le))
    by (inr la) (inr lb) (inl low) (inl low2) =
        let one = moved_up p a la low in
        let two = moved_up p b lb low2 in
        omega (arith, one, two, le)
    by (inr la) (inr lb) (inl low) (inr past) =
        let one = moved_up p a la low in
        let two = stays b past in
        omega (arith, one, two, low, past)
    by (inr la) (inr lb) (inr past) (inl low) = absurd (omega (arith, past, low, le))
    by (inr la) (inr lb) (inr past) (inr past2) =
        let one = stays a past in
        let two = stays b past2 in
        omega (arith, one, two, le)

pub moved_back-rises : (p a b : ℕ) → a ≤ b → moved_back p a ≤ moved_back p b
moved_back-rises p a b le = by (cases_lt p a) (cases_lt p b)
  where
    by : (p < a) ⊎ (a ≤ p) → (p < b) ⊎ (b ≤ p) → moved_back p a ≤ moved_back p b
    by (inl la) (inl lb) =
        let one = one_back p a la in
        let two = one_back p b lb in
        omega (arith, one, two, le)
    by (inl la) (inr lb) = absurd (omega (arith, la, lb, le))
    by (inr la) (inl lb) =
        let one = not_back p a la in
        let two = one_back p b lb in
        omega (arith, one, two, la, lb)
    by (inr la) (inr lb) =
        let one = not_back p a la in
        let two = not_back p b lb in
        omega (arith, one, two, le)

-- ---- those before a place stay

module _ (f : ℕ → ℕ) where
  -- f changes none of the first n
  pub first_mapped-same : (n : ℕ) (xs : List ℕ) → ((k : ℕ) → k < n → k < length xs → f (get_or xs k 0) ≡ get_or xs k 0)
      → xs ≡ first_mapped f n xs
  first_mapped-same zero xs stays = refl
  first_mapped-same (suc n) [] stays = refl
  first_mapped-same (suc n) (x ∷ xs) stays =
      ap (λ y. y ∷ xs) (sym (stays 0 (omega arith) (omega arith)))
      ∙ ap (λ ys. f x ∷ ys) (first_mapped-same n xs (λ k l m. stays (suc k) (omega (arith, l)) (omega (arith, m))))

  -- those from the n-th on are as they were
  pub first_mapped-later : (n : ℕ) (xs : List ℕ) (k : ℕ) → n ≤ k
      → get_or (first_mapped f n xs) k 0 ≡ get_or xs k 0
  first_mapped-later zero xs k le = refl
  first_mapped-later (suc n) [] k le = refl
  first_mapped-later (suc n) (x ∷ xs) zero le = absurd (omega (arith, le))
  first_mapped-later (suc n) (x ∷ xs) (suc k) le = first_mapped-later n xs k (omega (arith, le))

-- ---- the starts at a place or behind it

-- the first n are before the place, and no later one is
abbrev pub PartAt : (ℕ → Bool) → List ℕ → ℕ → Type 0
PartAt before starts n = IsPartitionPoint (λ s. before s ≡ true) (λ s. before s ≡ false) starts n

module _ (starts : List ℕ) (at n : ℕ) where
  pub move_begun : PartAt (λ s. ltb s at) starts n → starts ≡ first_mapped (moved at) n starts
  move_begun part = first_mapped-same (moved at) n starts
      (λ k less _. not_moved at (get_or starts k 0) (ltb-true _ _ (part.0 k 0 (omega arith) less)))

  pub moves_one : (now : List ℕ) (i : ℕ) → PartAt (λ s. ltb s at) starts n → All (λ s. s < last) starts
      → now ≡ first_mapped (moved at) i starts → n ≤ i → i < length starts
      → (get_or now i 0 < last) × (get_or now i 0 + 1 ≡ moved at (get_or now i 0))
  moves_one now i part low is le less =
      let same = ap (λ ss. get_or ss i 0) is ∙ first_mapped-later (moved at) i starts i (omega arith) in
      let past = ltb-false _ _ (part.1 i 0 le less) in
      let small = All-get_or (λ s. s < last) starts i 0 less low in
      let up = moved_up at (get_or now i 0) (omega (arith, same, past)) (omega (arith, same, small)) in
      (omega (arith, same, small), omega (arith, up))

  pub back_begun : PartAt (λ s. leb s at) starts n → starts ≡ first_mapped (moved_back at) n starts
  back_begun part = first_mapped-same (moved_back at) n starts
      (λ k less _. not_back at (get_or starts k 0) (leb-true _ _ (part.0 k 0 (omega arith) less)))

  pub goes_back : (now : List ℕ) (i : ℕ) → PartAt (λ s. leb s at) starts n
      → now ≡ first_mapped (moved_back at) i starts → n ≤ i → i < length starts
      → (1 ≤ get_or now i 0) × (get_or now i 0 - 1 ≡ moved_back at (get_or now i 0))
  goes_back now i part is le less =
      let same = ap (λ ss. get_or ss i 0) is ∙ first_mapped-later (moved_back at) i starts i (omega arith) in
      let past = leb-false _ _ (part.1 i 0 le less) in
      (omega (arith, same, past), sym (one_back at (get_or now i 0) (omega (arith, same, past))))

-- ---- starts and rows, after a change of both

module _ {R : Type 0} where
  pub in_order-same : (starts ss : List ℕ) (rows rs : List (List ℕ × R)) → ss ≡ starts → rs ≡ rows
      → AreInOrder starts rows → AreInOrder ss rs
  in_order-same starts ss rows rs a b order =
      subst (λ l. AreInOrder l rs) (sym a) (subst (AreInOrder starts) (sym b) order)

  module _ (starts : List ℕ) (rows : List (List ℕ × R)) (order : AreInOrder starts rows) where
    pub in_order-set : (i : ℕ) (w : R) → AreInOrder starts (set_value_at rows i w)
    in_order-set i w = record {
      each = order.each ∙ sym (length-set_value_at rows i w);
      apart = own_texts-set rows i w order.apart;
      ascend = order.ascend;
    }

    pub in_order-map : (f : ℕ → ℕ) → ((a b : ℕ) → a ≤ b → f a ≤ f b) → AreInOrder (map f starts) rows
    in_order-map f rises = record {
      each = length-map starts f ∙ order.each;
      apart = order.apart;
      ascend = ascend-map starts order.ascend f rises;
    }

    module _ (text : List ℕ) where
      pub in_order-without : (place : ℕ) → place_of text rows ≡ Some place
          → AreInOrder (remove starts place) (without text rows)
      in_order-without place at =
          let within = place_within text rows place at in
          let each = order.each in
          let there : place < length starts = omega (arith, within, each) in
          let one = remove-length starts place there in
          let other = without-length text rows place at in
          record {
            each = omega (arith, each, one, other);
            apart = own_texts-without text rows order.apart;
            ascend = ascend-remove starts order.ascend place there;
          }

      pub in_order-begun : (start : ℕ) → All (λ s. s < start) starts → (own : R) → place_of text rows ≡ None
          → AreInOrder (starts ++ start ∷ []) (with_value rows text own)
      in_order-begun start low own none =
          let each = order.each in
          let one = length-append starts (start ∷ []) in
          let other = with_value-length text rows own none in
          record {
            each = omega (arith, each, one, other);
            apart = own_texts-with_value text rows own none order.apart;
            ascend = ascend-push starts order.ascend start low;
          }

-- a part more, or none where that was refused
module _ {R T E : Type 0} (starts ss : List ℕ) (rows rs : List (List ℕ × R)) (order : AreInOrder starts rows)
    (text : List ℕ) (start : ℕ) (own : R) (r : Result T E) (starts_ok : OnOk r (ss ≡ starts ++ start ∷ []))
    (rows_ok : OnOk r (rs ≡ with_value rows text own)) (starts_err : OnErr r (ss ≡ starts))
    (rows_err : OnErr r (rs ≡ rows)) (none : place_of text rows ≡ None) where
  pub in_order-after : All (λ s. s < start) starts → AreInOrder ss rs
  in_order-after low = by r starts_ok rows_ok starts_err rows_err
    where
      by : (q : Result T E) → OnOk q (ss ≡ starts ++ start ∷ []) → OnOk q (rs ≡ with_value rows text own)
          → OnErr q (ss ≡ starts) → OnErr q (rs ≡ rows) → AreInOrder ss rs
      by (Ok _) a b _ _ = in_order-same _ _ _ _ a b (in_order-begun starts rows order text start low own none)
      by (Err _) _ _ a b = in_order-same _ _ _ _ a b order

  pub part_after : {P : Type 0} (part : ℕ → R → P) (index : List (List ℕ × P)) → with_starts part starts rows ≡ index
      → OnOk r (with_starts part ss rs ≡ with_value index text (part start own))
  part_after part index is = by r starts_ok rows_ok
    where
      by : (q : Result T E) → OnOk q (ss ≡ starts ++ start ∷ []) → OnOk q (rs ≡ with_value rows text own)
          → OnOk q (with_starts part ss rs ≡ with_value index text (part start own))
      by (Ok _) a b =
          (λ i. with_starts part (a i) (b i)) ∙ part_added part text starts rows start own order.each none
          ∙ ap (λ es. with_value es text (part start own)) is
      by (Err _) _ _ = tt

pub all_low : (starts : List ℕ) (domains : List (List ℕ × DomainRows)) → AreInOrder starts domains → (index : Index)
    → with_starts part_at starts domains ≡ index → (row : Place) (rows : ℕ) → IsReady row rows index
    → All (λ start. start < rows) starts
all_low starts domains order index is row rows ready =
    subst (λ n. All (λ start. start < n) starts) ready.counted
    (starts_within ready.places starts domains order.each order.apart
    (subst (PartsAgree ready.places) (sym is) ready.agrees.parts))
