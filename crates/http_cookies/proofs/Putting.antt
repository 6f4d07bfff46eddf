-- Lines and values, put one after another.
use Rattle.std.proofs.Common.{◌≡◌, ◌<◌, ◌+◌, ◌↔◌, ◌⊎◌, ℕ, List, [], ◌∷◌, ◌++◌, map, length, refl, sym, ap}
use Rattle.std.proofs.Common.{subst, ◌∙◌, arith, inl, inr}
use Rattle.std.proofs.Common.{Result, Ok, Err, take, length-append, append_assoc, Bool, true, false, IfErr}
use Rattle.std.specs.Prelude.{IsErr, IsErrAnd, IsErrOf, IsTrue, fold, IfOk, MatchResult, OnOk}
use Rattle.std.specs.List.{AllZip}
use Rattle.std.proofs.lemmas.Bool.{cases_lt}
use Rattle.std.proofs.Math.Seq.{take-append_seam}
use Rattle.std.proofs.lemmas.List.{append-nil, map-append, take-append-le}
use Rattle.std.proofs.lemmas.List.Sums.{fold-append}
use Rattle.std.proofs.lemmas.List.Elements.{All-push, All-contains, Contains-append_right, same_from_all_zip}
use Rattle.http_header.specs.FieldValue.{FieldValue, IsFieldValue, plain_value}
use Rattle.http_header.specs.HeaderMap.{append, IsMapClone, RefusesAppend}
use Rattle.http_header.specs.declared.map.HeaderMapError.{HeaderMapError}
use Rattle.http_header.specs.declared.map.HeaderMapError.TheVariants.{MaxSizeReached, OutOfMemory as NoMapMemory}
use Rattle.http_header.specs.declared.value.HeaderValueError.{HeaderValueError}
use Rattle.http_header.specs.declared.value.HeaderValueError.TheVariants.{Invalid, OutOfMemory as NoValueMemory}
use Rattle.http_cookies.specs.Errors.{map_error, value_error}
use Rattle.http_cookies.specs.Fields.{Fields, AreFieldValues, AreLinesRefusal, RefusesValues, TakesLines}
use Rattle.http_cookies.specs.Fields.{with_lines, with_values, set_cookie_name}
use Rattle.http_cookies.specs.declared.error.PutError.{PutError}
use Rattle.http_cookies.specs.declared.error.PutError.TheVariants.{Value, Full, OutOfMemory}

-- these values were appended, and none was refused
pub record Appended (fields : Fields) (values : List FieldValue) (new : Fields) : Type 0 where
  pub put : new ≡ with_values fields values
  pub room : ¬ (RefusesValues fields values)

-- some of the values were, and these n are left
pub record Appending (fields : Fields) (values : List FieldValue) (new : Fields) (left : List FieldValue) (n : ℕ)
    : Type 0 where
  pub done : List FieldValue
  pub so : Appended fields done new
  pub cut : values ≡ done ++ left
  pub count : n ≡ length left

-- these values have these lines as their bytes
pub record AreMade (lines : List (List ℕ)) (values : List FieldValue) : Type 0 where
  pub made : values ≡ map plain_value lines
  pub are_values : AreFieldValues lines

-- some of the lines were made values, and these n are left
pub record Making (lines : List (List ℕ)) (values : List FieldValue) (left : List (List ℕ)) (n : ℕ) : Type 0 where
  pub done : List (List ℕ)
  pub so : AreMade done values
  pub cut : lines ≡ done ++ left
  pub count : n ≡ length left

-- ---- errors

-- what the exit of a `?` answers
pub exits : {A : Type 0} (r : Result A PutError) (P : PutError → Type 0) (error : PutError)
    → IsErr r × IsErrAnd r (λ e. e ≡ error) → P error → IfErr r P
exits (Ok x) P error is p = tt
exits (Err e) P error is p = subst P (sym is.1) p

pub map_exits : {A B : Type 0} (r : Result A PutError) (P : PutError → Type 0) (s : Result B HeaderMapError)
    (error : HeaderMapError) (R : Type 0) → IsErr r × IsErrAnd r (λ e. e ≡ map_error error) → s ≡ Err error
    → IsErrOf s MaxSizeReached ↔ R → P OutOfMemory → (R → P Full) → IfErr r P
map_exits r P s MaxSizeReached R is was full memory refused = exits r P Full is (refused (full.0 was))
map_exits r P s NoMapMemory R is was full memory refused = exits r P OutOfMemory is memory

pub value_exits : {A B : Type 0} (r : Result A PutError) (P : PutError → Type 0) (s : Result B HeaderValueError)
    (error : HeaderValueError) (R : Type 0) → IsErr r × IsErrAnd r (λ e. e ≡ value_error error) → s ≡ Err error
    → IsErrOf s Invalid ↔ R → P OutOfMemory → (R → P Value) → IfErr r P
value_exits r P s Invalid R is was invalid memory refused = exits r P Value is (refused (invalid.0 was))
value_exits r P s NoValueMemory R is was invalid memory refused = exits r P OutOfMemory is memory

-- a text that was made a value is one
apart : {B E : Type 0} {x : B} {e : E} → Ok x ≡ Err e → ⊥
apart h = cc

stable : (b : Bool) → ¬ (¬ (IsTrue b)) → IsTrue b
stable true h = refl
stable false h = absurd (h (λ e. cc))

pub is_value : {B : Type 0} (s : Result B HeaderValueError) (value : B) (bytes : List ℕ) → s ≡ Ok value
    → IsErrOf s Invalid ↔ (¬ (IsFieldValue bytes)) → IsFieldValue bytes
is_value (Ok x) value bytes was invalid k d h = stable _ (λ no. apart (invalid.1 (λ all. no (all k d h))))
is_value (Err e) value bytes was invalid k d h = absurd (apart (sym was))

-- ---- values

with_values-push : (fields : Fields) (values : List FieldValue) (value : FieldValue)
    → with_values fields (values ++ value ∷ []) ≡ append (with_values fields values) set_cookie_name value
with_values-push fields values value =
    ap (fold (λ n item. append n item.0 item.1) fields) (map-append (λ v. (set_cookie_name, v)) values (value ∷ []))
    ∙ fold-append (λ n item. append n item.0 item.1) fields (map (λ v. (set_cookie_name, v)) values)
    ((set_cookie_name, value) ∷ [])

pub appending_none : (fields : Fields) (values left : List FieldValue) (n : ℕ) → left ≡ values → n ≡ length values
    → Appending fields values fields left n
appending_none fields values left n e count = record {
  done = [];
  so = record { put = refl; room = λ h. absurd (omega (arith, h.1)) };
  cut = sym e;
  count = count ∙ ap (λ (vs : List FieldValue). length vs) (sym e);
}

appended_next : (fields : Fields) (values : List FieldValue) (value : FieldValue) (old new : Fields)
    → Appended fields values old → ¬ (RefusesAppend old set_cookie_name) → new ≡ append old set_cookie_name value
    → Appended fields (values ++ value ∷ []) new
appended_next fields values value old new so room is = record {
  put = is ∙ (ap (λ (m : Fields). append m set_cookie_name value) so.put
      ∙ sym (with_values-push fields values value));
  room = λ h. refused h.0 h.1 h.2;
}
  where
    refused : (n : ℕ) → n < length (values ++ value ∷ [])
        → ¬ (RefusesAppend (with_values fields (take n (values ++ value ∷ []))) set_cookie_name)
    refused n h r = elim (cases_lt n (length values)) [
      | inl l ↦ so.room (
        n,
        l,
        subst (λ (vs : List FieldValue). RefusesAppend (with_values fields vs) set_cookie_name)
            (take-append-le n values (value ∷ []) (omega arith)) r,
      )
      | inr e ↦ room (subst (λ (m : Fields). RefusesAppend m set_cookie_name) (sym so.put)
          (subst (λ (vs : List FieldValue). RefusesAppend (with_values fields vs) set_cookie_name)
          (front n (omega (arith, length-append {A = FieldValue}))) r))
    ]
      where
        front : (n : ℕ) → n ≡ length values → take n (values ++ value ∷ []) ≡ values
        front n e = ap (λ (k : ℕ). take k (values ++ value ∷ [])) e ∙ take-append_seam values (value ∷ [])

pub appending_next : (fields : Fields) (values : List FieldValue) (value : FieldValue) (old new : Fields)
    (left rest : List FieldValue) (n m : ℕ) → Appending fields values old left n
    → (left ≡ value ∷ rest) × (m + 1 ≡ n) → ¬ (RefusesAppend old set_cookie_name)
    → new ≡ append old set_cookie_name value → Appending fields values new rest m
appending_next fields values value old new left rest n m so step room is = record {
  done = so.done ++ value ∷ [];
  so = appended_next fields so.done value old new so.so room is;
  cut = so.cut ∙ (ap (λ (vs : List FieldValue). so.done ++ vs) step.0
      ∙ sym (append_assoc so.done (value ∷ []) rest));
  count = fewer (ap (λ (vs : List FieldValue). length vs) step.0);
}
  where
    fewer : length left ≡ length (value ∷ rest) → m ≡ length rest
    fewer e = let a = step.1 in let b = so.count in omega arith

pub appending_refused : (fields : Fields) (values : List FieldValue) (value : FieldValue) (old : Fields)
    (left rest : List FieldValue) (n : ℕ) → Appending fields values old left n → left ≡ value ∷ rest
    → RefusesAppend old set_cookie_name → RefusesValues fields values
appending_refused fields values value old left rest n so step r =
    subst (RefusesValues fields) (sym (so.cut ∙ ap (λ (vs : List FieldValue). so.done ++ vs) step)) (
      length so.done,
      within,
      subst (λ (vs : List FieldValue). RefusesAppend (with_values fields vs) set_cookie_name)
          (sym (take-append_seam so.done (value ∷ rest)))
          (subst (λ (m : Fields). RefusesAppend m set_cookie_name) so.so.put r),
    )
  where
    within : length so.done < length (so.done ++ value ∷ rest)
    within = omega (arith, length-append {A = FieldValue})

none_left : {X : Type 0} (left : List X) → length left ≡ 0 → left ≡ []
none_left [] e = refl
none_left (x ∷ xs) e = absurd (omega arith)

pub appending_all : (fields : Fields) (values : List FieldValue) (new : Fields) (left : List FieldValue) (n : ℕ)
    → Appending fields values new left n → n ≡ 0
    → (new ≡ with_values fields values) × (¬ (RefusesValues fields values))
appending_all fields values new left n so e =
    subst (λ (vs : List FieldValue). (new ≡ with_values fields vs) × (¬ (RefusesValues fields vs)))
    (sym (so.cut ∙ (ap (λ (vs : List FieldValue). so.done ++ vs) (none_left left (sym so.count ∙ e))
    ∙ append-nil so.done))) (so.so.put, so.so.room)

-- a copy of a map is the map
same_entry : (e copy : List ℕ × List FieldValue)
    → (copy.0 ≡ e.0) × AllZip (λ v w. w ≡ v) e.1 copy.1 → copy ≡ e
same_entry e copy h =
    ap (λ (n : List ℕ). (n, copy.1)) h.0
    ∙ ap (λ (vs : List FieldValue). (e.0, vs)) (same_from_all_zip (λ v w. w ≡ v) e.1 copy.1 h.1 (λ x y i. i))

pub same_map : (fields copy : Fields) → IsMapClone (λ v w. w ≡ v) fields copy → copy ≡ fields
same_map fields copy h =
    same_from_all_zip (λ e c. (c.0 ≡ e.0) × AllZip (λ v w. w ≡ v) e.1 c.1) fields copy h same_entry

pub copies : {E : Type 0} (r : Result Fields E) (fields : Fields) (Q : E → Type 0)
    → MatchResult r (IsMapClone (λ v w. w ≡ v) fields) Q → IfOk r (λ copy. copy ≡ fields)
copies (Ok copy) fields Q h = same_map fields copy h
copies (Err e) fields Q h = tt

pub put_ok : (new fields longer : Fields) (values : List FieldValue) → longer ≡ fields
    → (new ≡ with_values longer values) × (¬ (RefusesValues longer values))
    → (new ≡ with_values fields values) × (¬ (RefusesValues fields values))
put_ok new fields longer values e h =
    subst (λ (m : Fields). (new ≡ with_values m values) × (¬ (RefusesValues m values))) e h

pub put_exits : {A : Type 0} (r : Result A PutError) (fields longer : Fields) (values : List FieldValue)
    (error : PutError) → IsErr r × IsErrAnd r (λ e. e ≡ error) → longer ≡ fields
    → (error ≡ OutOfMemory) ⊎ ((error ≡ Full) × RefusesValues longer values)
    → IfErr r (λ e. (e ≡ OutOfMemory) ⊎ ((e ≡ Full) × RefusesValues fields values))
put_exits r fields longer values error is e h =
    exits r (λ e. (e ≡ OutOfMemory) ⊎ ((e ≡ Full) × RefusesValues fields values)) error is
    (subst (λ (m : Fields). (error ≡ OutOfMemory) ⊎ ((error ≡ Full) × RefusesValues m values)) e h)

-- ---- lines

pub making_next : (lines : List (List ℕ)) (line : List ℕ) (values new : List FieldValue) (value : FieldValue)
    (left rest : List (List ℕ)) (n m : ℕ) → Making lines values left n → (left ≡ line ∷ rest) × (m + 1 ≡ n)
    → value ≡ plain_value line → IsFieldValue line → new ≡ values ++ value ∷ [] → Making lines new rest m
making_next lines line values new value left rest n m so step is valid pushed = record {
  done = so.done ++ line ∷ [];
  so = record {
    made = pushed ∙ (ap (λ (vs : List FieldValue). vs ++ value ∷ []) so.so.made
        ∙ (ap (λ (v : FieldValue). map plain_value so.done ++ v ∷ []) is
        ∙ sym (map-append plain_value so.done (line ∷ []))));
    are_values = All-push IsFieldValue so.done line so.so.are_values valid;
  };
  cut = so.cut ∙ (ap (λ (ls : List (List ℕ)). so.done ++ ls) step.0 ∙ sym (append_assoc so.done (line ∷ []) rest));
  count = fewer (ap (λ (ls : List (List ℕ)). length ls) step.0);
}
  where
    fewer : length left ≡ length (line ∷ rest) → m ≡ length rest
    fewer e = let a = step.1 in let b = so.count in omega arith

pub making_refused : (lines : List (List ℕ)) (line : List ℕ) (values : List FieldValue) (left rest : List (List ℕ))
    (n : ℕ) → Making lines values left n → left ≡ line ∷ rest → ¬ (IsFieldValue line) → ¬ (AreFieldValues lines)
making_refused lines line values left rest n so step bad all =
    bad (All-contains IsFieldValue (so.done ++ line ∷ rest) line
    (subst AreFieldValues (so.cut ∙ ap (λ (ls : List (List ℕ)). so.done ++ ls) step) all)
    (Contains-append_right so.done (line ∷ rest) line (0, omega arith, refl)))

pub lines_put : {A : Type 0} (r : Result A PutError) (fields new : Fields) (lines : List (List ℕ))
    (values : List FieldValue) → (values ≡ map plain_value lines) × AreFieldValues lines
    → OnOk r ((new ≡ with_values fields values) × (¬ (RefusesValues fields values)))
    → OnOk r (TakesLines fields lines × (new ≡ with_lines fields lines))
lines_put (Err e) fields new lines values made h = tt
lines_put (Ok x) fields new lines values made h = (
  record {
    values = made.1;
    room = subst (λ (vs : List FieldValue). ¬ (RefusesValues fields vs)) made.0 h.1;
  },
  h.0 ∙ ap (with_values fields) made.0,
)

pub lines_refused : {A : Type 0} (r : Result A PutError) (fields : Fields) (lines : List (List ℕ))
    (values : List FieldValue) → (values ≡ map plain_value lines) × AreFieldValues lines
    → IfErr r (λ e. (e ≡ OutOfMemory) ⊎ ((e ≡ Full) × RefusesValues fields values))
    → IfErr r (λ e. (e ≡ OutOfMemory) ⊎ AreLinesRefusal fields lines e)
lines_refused (Ok x) fields lines values made h = tt
lines_refused (Err e) fields lines values made (inl memory) = inl memory
lines_refused (Err e) fields lines values made (inr full) =
    inr (inr (full.0, (made.1, subst (RefusesValues fields) made.0 full.1)))
