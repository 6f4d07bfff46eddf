-- Field lines: their colon, and their faults.
use Rattle.std.proofs.Common.{◌≡◌, ◌+◌, ◌-◌, ◌<◌, ℕ, Bool, true, false, cond, List, [], ◌∷◌, length, take, drop}
use Rattle.std.proofs.Common.{Some, None, refl, sym, ap, subst, ◌∙◌, arith}
use Rattle.std.specs.Prelude.{◌||◌, nat_lt, not, position, slice_index}
use Rattle.std.specs.List.{after_first, before_first, list_any, position_or_len}
use Rattle.std.proofs.lemmas.Bool.Decides.{nat_tests}
use Rattle.std.proofs.lemmas.List.{take_rest}
use Rattle.text_lines.proofs.LineLemmas.{found, missed}
use Rattle.response_heads.specs.Lines.{fault_of, is_colon, is_control, is_token, is_white}
use Rattle.response_heads.specs.declared.error.LineFault.TheVariants.{NoColon, Name, Control}

-- ---- the colon

any_by_position : (p : ℕ → Bool) (xs : List ℕ) → list_any p xs ≡ nat_lt (position_or_len p xs) (length xs)
any_by_position p [] = refl
any_by_position p (x ∷ xs) = by (p x) (any_by_position p xs)
  where
    by : (b : Bool) → list_any p xs ≡ nat_lt (position_or_len p xs) (length xs)
        → (b || list_any p xs) ≡ nat_lt (cond (not b) (1 + position_or_len p xs) 0) (length (x ∷ xs))
    by true h = grind (arith, nat_tests)
    by false h = h ∙ grind (arith, nat_tests)

pub record HasColon (line : List ℕ) (i : ℕ) : Type 0 where
  pub within : i < length line
  pub before : before_first is_colon line ≡ take i line
  pub after : after_first is_colon line ≡ take (length line - (i + 1)) (drop (i + 1) line)
  pub some : list_any is_colon line ≡ true

pub has_colon : (line : List ℕ) (i : ℕ) → position is_colon line ≡ Some i → HasColon line i
has_colon line i e =
    let f = found (nat_lt (position_or_len is_colon line) (length line)) (position_or_len is_colon line) i e in
    let below : position_or_len is_colon line < length line = grind (arith, nat_tests) in
    record {
      within = subst (λ n. n < length line) f.1 below;
      before = ap (λ n. take n line) f.1;
      after = ap (λ n. drop (n + 1) line) f.1 ∙ sym (take_rest line (i + 1));
      some = any_by_position is_colon line ∙ f.0;
    }

pub no_colon : (line : List ℕ) → position is_colon line ≡ None → list_any is_colon line ≡ false
no_colon line e =
    any_by_position is_colon line
    ∙ missed (nat_lt (position_or_len is_colon line) (length line)) (position_or_len is_colon line) e

-- ---- the faults

pub fault-no_colon : (line : List ℕ) → is_white (slice_index line 0) ≡ false → list_any is_colon line ≡ false
    → fault_of line ≡ Some NoColon
unfolding fault_of
fault-no_colon line white colon = rw white (rw colon refl)

pub fault-name : (line : List ℕ) → is_white (slice_index line 0) ≡ false → list_any is_colon line ≡ true
    → is_token (before_first is_colon line) ≡ false → fault_of line ≡ Some Name
unfolding fault_of
fault-name line white colon name = rw white (rw colon (rw name refl))

pub fault-control : (line : List ℕ) → is_white (slice_index line 0) ≡ false → list_any is_colon line ≡ true
    → is_token (before_first is_colon line) ≡ true → list_any is_control line ≡ true → fault_of line ≡ Some Control
unfolding fault_of
fault-control line white colon name control = rw white (rw colon (rw name (rw control refl)))

pub fault-none : (line : List ℕ) → is_white (slice_index line 0) ≡ false → list_any is_colon line ≡ true
    → is_token (before_first is_colon line) ≡ true → list_any is_control line ≡ false → fault_of line ≡ None
unfolding fault_of
fault-none line white colon name control = rw white (rw colon (rw name (rw control refl)))
