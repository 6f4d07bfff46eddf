-- A registrable domain as an end of a name.
use Rattle.std.proofs.Common.{◌≡◌, ℕ, ◌<◌, ◌≤◌, ◌-◌, ◌+◌, ◌==◌, Bool, true, false, List, [], ◌∷◌, ◌++◌, length}
use Rattle.std.proofs.Common.{take, drop}
use Rattle.std.proofs.Common.{◌≢◌, All, slice_index, refl, sym, ap, subst, ◌∙◌, inl, inr, arith}
use Rattle.std.specs.Borrow.{Bor}
use Rattle.std.specs.List.{join_with_byte}
use Rattle.std.specs.Prelude.{if◌then◌else◌, MatchOption, None, Option, Some}
use Rattle.std.proofs.Math.Seq.{drop-append_seam, take-append_seam}
use Rattle.std.proofs.lemmas.Bool.{cases_Bool, false≢true}
use Rattle.std.proofs.lemmas.List.{append_assoc, get_or-append-add, length-append, length-take-le}
use Rattle.std.proofs.lemmas.List.{take-append-drop}
use Rattle.std.proofs.lemmas.List.Elements.{All-drop, All-head}
use Rattle.std.proofs.lemmas.List.Splits.{join_with_byte-slice_split}
use Rattle.idna.specs.Labels.{full_stop, labels_of}
use Rattle.publicsuffix.specs.Prevailing.{IsEnd, IsName, without_last_dot}
use Rattle.publicsuffix.specs.Registrable.{GivesRegistrable, HasSuffixOf, IsEndOf, IsRegistrable, IsSuffixItself}
use Rattle.publicsuffix.specs.Rules.{Rule}
use Rattle.publicsuffix.proofs.PrevailingLemmas.{covered-same}

abbrev pub ends_in_stop : List ℕ → Bool
ends_in_stop text = slice_index text (length text - 1) == full_stop

some_byte : (text : List ℕ) → ends_in_stop text ≡ true → 0 < length text
some_byte [] stops = absurd (false≢true stops)
some_byte (b ∷ bs) stops = omega arith

without_stop : (text : List ℕ) → ends_in_stop text ≡ true → without_last_dot text ≡ take (length text - 1) text
without_stop text stops = ap (λ b. if b then take (length text - 1) text else text) stops

with_none : (text : List ℕ) → ends_in_stop text ≡ false → without_last_dot text ≡ text
with_none text none = ap (λ b. if b then take (length text - 1) text else text) none

-- an end of the text that has a byte ends as the text does
ends_alike : (front end : List ℕ) → 0 < length end → ends_in_stop (front ++ end) ≡ ends_in_stop end
ends_alike front end some =
    let last : length (front ++ end) - 1 ≡ length front + (length end - 1) = omega (arith, length-append front end) in
    ap (λ n. slice_index (front ++ end) n == full_stop) last
    ∙ ap (λ b. b == full_stop) (get_or-append-add front end (length end - 1) 0)

stop_behind : (text front end : List ℕ) → ends_in_stop text ≡ true → take (length text - 1) text ≡ front ++ end
    → without_last_dot (drop (length front) text) ≡ end
stop_behind text front end stops split =
    let last = drop (length text - 1) text in
    let some = some_byte text stops in
    let whole : text ≡ front ++ (end ++ last) =
    sym (take-append-drop (length text - 1) text) ∙ ap (λ t. t ++ last) split ∙ append_assoc front end last in
    let long : length (front ++ end) ≡ length text - 1 =
    ap length (sym split) ∙ length-take-le (length text - 1) text (omega arith) in
    let one : length (end ++ last) - 1 ≡ length end =
    omega (arith, some, long, ap length whole, length-append front (end ++ last), length-append front end) in
    let longer : 0 < length (end ++ last) =
    omega (arith, some, long, ap length whole, length-append front (end ++ last), length-append front end) in
    let same : ends_in_stop (end ++ last) ≡ true =
    sym (ends_alike front (end ++ last) longer) ∙ ap ends_in_stop (sym whole) ∙ stops in
    ap (λ t. without_last_dot (drop (length front) t)) whole
    ∙ ap without_last_dot (drop-append_seam front (end ++ last))
    ∙ without_stop (end ++ last) same
    ∙ ap (λ n. take n (end ++ last)) one
    ∙ take-append_seam end last

-- behind the bytes in front of an end of a text without its last full stop stands that end, without the full stop
pub dropped_end : (text front end : List ℕ) → without_last_dot text ≡ front ++ end
    → without_last_dot (drop (length front) text) ≡ end
dropped_end text front end split = elim (cases_Bool (ends_in_stop text)) [
  | inl stops ↦ stop_behind text front end stops (sym (without_stop text stops) ∙ split)
  | inr none ↦
      let plain : text ≡ front ++ end = sym (with_none text none) ∙ split in
      ap (λ t. without_last_dot (drop (length front) t)) plain
      ∙ ap without_last_dot (drop-append_seam front end)
      ∙ end_alone end (λ some. sym (ends_alike front end some) ∙ ap ends_in_stop (sym plain) ∙ none)
]
  where
    end_alone : (end : List ℕ) → (0 < length end → ends_in_stop end ≡ false) → without_last_dot end ≡ end
    end_alone [] none = refl
    end_alone (b ∷ bs) none = with_none (b ∷ bs) (none (omega arith))

-- what stands behind the bytes in front of the last labels of a name
pub end_behind : (text name end : List ℕ) (count : ℕ) → name ≡ without_last_dot text → IsEnd name count end
    → IsEndOf text count (drop (length name - length end) text)
end_behind text name end count same last =
    let front = last.front in
    let before : length name - length end ≡ length front =
    omega (arith, ap length last.split, length-append front end) in
    let dropped : without_last_dot (drop (length front) text) ≡ end =
    dropped_end text front end (sym same ∙ last.split) in
    let behind : without_last_dot (drop (length name - length end) text) ≡ end =
    ap (λ n. without_last_dot (drop n text)) before ∙ dropped in
    record {
      front = take (length name - length end) text;
      split = sym (take-append-drop (length name - length end) text);
      labels = subst (λ t. IsEnd t count (without_last_dot (drop (length name - length end) text))) same
          (subst (IsEnd name count) (sym behind) last);
    }

-- so it is the registrable domain, where the labels are those of the public suffix and one more
pub gives_registrable : (rules : List Rule) (text name : List ℕ) (count : ℕ) (found : Option (Bor (List ℕ)))
    → IsName (without_last_dot text) → name ≡ without_last_dot text → HasSuffixOf rules name count
    → MatchOption found (count ≡ length (labels_of name))
    (λ domain. (count < length (labels_of name)) × IsEndOf text (count + 1) domain.now)
    → GivesRegistrable rules text found
gives_registrable rules text name count None is_name same suffix all =
    let whole = subst (HasSuffixOf rules name) all suffix in
    inr (record {
      is_name = is_name;
      suffix = subst (λ t. HasSuffixOf rules t (length (labels_of t))) same whole;
    })
gives_registrable rules text name count (Some domain) is_name same suffix (longer, end) = record {
  is_name = is_name;
  count = count;
  suffix = subst (λ t. HasSuffixOf rules t count) same suffix;
  longer = subst (λ t. count < length (labels_of t)) same longer;
  end = end;
}

-- the public suffix of a name has one number of labels
pub one_count : (rules : List Rule) (name : List ℕ) (one other : ℕ) → HasSuffixOf rules name one
    → HasSuffixOf rules name other → one ≡ other
one_count rules name one other (inl (a, of_a, is_a)) (inl (b, of_b, is_b)) =
    is_a ∙ covered-same rules (labels_of name) a b of_a of_b ∙ sym is_b
one_count rules name one other (inl (a, of_a, is_a)) (inr none) = absurd (none.0 a of_a.of_list of_a.matches)
one_count rules name one other (inr none) (inl (b, of_b, is_b)) = absurd (none.0 b of_b.of_list of_b.matches)
one_count rules name one other (inr a) (inr b) = a.1 ∙ sym b.1

-- labels make one text
one_text : (a b : List ℕ) → labels_of a ≡ labels_of b → a ≡ b
one_text a b same =
    sym (join_with_byte-slice_split full_stop a) ∙ ap (join_with_byte full_stop) same
    ∙ join_with_byte-slice_split full_stop b

-- an end of a name has a byte
some_end : (name : List ℕ) (count : ℕ) (end : List ℕ) → IsName name → IsEnd name count end → 0 < length end
some_end name count [] is_name last =
    let labels = All-drop (λ label. label ≢ []) (length (labels_of name) - count) (labels_of name) is_name in
    absurd (All-head (λ label. label ≢ []) [] [] (subst (All (λ label. label ≢ [])) (sym last.labels) labels) refl)
some_end name count (b ∷ bs) is_name last = omega arith

some_domain : (domain : List ℕ) → 0 < length (without_last_dot domain) → 0 < length domain
some_domain [] some = some
some_domain (b ∷ bs) some = omega arith

-- of two ends of a text that end alike the lengths are those without a full stop
same_length : (a b : List ℕ) → ends_in_stop a ≡ ends_in_stop b → without_last_dot a ≡ without_last_dot b
    → 0 < length a → 0 < length b → length a ≡ length b
same_length a b alike same some_a some_b = elim (cases_Bool (ends_in_stop a)) [
  | inl stops ↦
      let long_a = length-take-le (length a - 1) a (omega arith) in
      let long_b = length-take-le (length b - 1) b (omega arith) in
      let cut = ap length (sym (without_stop a stops) ∙ same ∙ without_stop b (sym alike ∙ stops)) in
      omega (arith, some_a, some_b, long_a, long_b, cut)
  | inr none ↦ ap length (sym (with_none a none) ∙ same ∙ with_none b (sym alike ∙ none))
]

-- two ends of a text with one length are one
same_end : (text f a g b : List ℕ) → text ≡ f ++ a → text ≡ g ++ b → length a ≡ length b → a ≡ b
same_end text f a g b of_a of_b long =
    let front : length f ≡ length g =
    omega (arith, ap length of_a, ap length of_b, length-append f a, length-append g b, long) in
    sym (drop-append_seam f a) ∙ ap (drop (length f)) (sym of_a) ∙ ap (λ n. drop n text) front
    ∙ ap (drop (length g)) of_b ∙ drop-append_seam g b

pub one_registrable : (rules : List Rule) (text one other : List ℕ) → IsRegistrable rules text one
    → IsRegistrable rules text other → one ≡ other
one_registrable rules text one other is_one is_other =
    let name = without_last_dot text in
    let count = one_count rules name is_one.count is_other.count is_one.suffix is_other.suffix in
    let labels : labels_of (without_last_dot one) ≡ labels_of (without_last_dot other) =
    is_one.end.labels.labels
    ∙ ap (λ n. drop (length (labels_of name) - (n + 1)) (labels_of name)) count
    ∙ sym is_other.end.labels.labels in
    let same = one_text (without_last_dot one) (without_last_dot other) labels in
    let some_one = some_domain one
    (some_end name (is_one.count + 1) (without_last_dot one) is_one.is_name is_one.end.labels) in
    let some_other = some_domain other
    (some_end name (is_other.count + 1) (without_last_dot other) is_other.is_name is_other.end.labels) in
    let alike : ends_in_stop one ≡ ends_in_stop other =
    sym (ends_alike is_one.end.front one some_one) ∙ ap ends_in_stop (sym is_one.end.split ∙ is_other.end.split)
    ∙ ends_alike is_other.end.front other some_other in
    same_end text is_one.end.front one is_other.end.front other is_one.end.split is_other.end.split
    (same_length one other alike same some_one some_other)

pub no_suffix_has_one : (rules : List Rule) (text domain : List ℕ) → IsSuffixItself rules text
    → IsRegistrable rules text domain → ⊥
no_suffix_has_one rules text domain itself is =
    let name = without_last_dot text in
    let same = one_count rules name is.count (length (labels_of name)) is.suffix itself.suffix in
    absurd (omega (arith, same, is.longer))
