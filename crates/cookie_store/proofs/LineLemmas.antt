-- The lines of a text, one after another.
use Rattle.std.proofs.Common.{◌≡◌, ◌≢◌, ◌<◌, ℕ, ℤ, Bool, true, false, cond}
use Rattle.std.proofs.Common.{List, [], ◌∷◌, ◌++◌, All, length, refl, sym, ap}
use Rattle.std.proofs.Common.{subst, ◌∙◌, append_assoc, append-nil, inl, inr, arith, ⊎_elim}
use Rattle.std.proofs.lemmas.Bool.Decides.{nat_tests}
use Rattle.std.proofs.lemmas.List.Elements.{All-append}
use Rattle.std.specs.Prelude.{◌==◌, ◌⊎◌, Some, None, if◌then◌else◌}
use Rattle.std.specs.List.{slice_split, onto_first}
use Rattle.std.specs.Str.Lines.{lines, lines_of_parts, strip_carriage_return}
use Rattle.std.proofs.lemmas.List.Splits.{slice_split_at, slice_split_none}
use Rattle.store_parts.specs.declared.error.Error.{Error}
use Rattle.store_parts.specs.declared.error.Error.TheVariants.{OutOfMemory}
use Rattle.cookie_store.specs.LoadedLines.{Cuts, IsFault, LineReader, StopsAtLine, TakesLines}
use Rattle.cookie_store.specs.Rows.{Row}
use Rattle.cookie_store.specs.Steps.{Fills, TakesOne, TakesRest, TakesWhole}
use Rattle.cookie_store.proofs.LoadLemmas.{kept, kept_first, none_kept}

abbrev is_line_feed : ℕ → Bool
is_line_feed b = b == 10

-- ---- what lines there are

-- a list that isn't empty has a first element
abbrev pub IsSome : {A : Type 0} → List A → Type 0
IsSome {A} xs = (x : A) × (more : List A) × (xs ≡ x ∷ more)

parts_some : (text : List ℕ) → IsSome (slice_split is_line_feed text)
parts_some [] = ([], [], refl)
parts_some (x ∷ xs) = by (is_line_feed x) (slice_split is_line_feed xs)
  where
    by : (b : Bool) (parts : List (List ℕ)) → IsSome (cond b ([] ∷ parts) (onto_first x parts))
    by true parts = ([], parts, refl)
    by false [] = (x ∷ [], [], refl)
    by false (part ∷ parts) = (x ∷ part, parts, refl)

behind_part : (x : List ℕ) (parts : List (List ℕ)) → IsSome parts
    → lines_of_parts (x ∷ parts) ≡ strip_carriage_return x ∷ lines_of_parts parts
behind_part x parts (part, more, e) =
    subst (λ ps. lines_of_parts (x ∷ ps) ≡ strip_carriage_return x ∷ lines_of_parts ps) (sym e) refl

some_bytes : (n : ℕ) → 0 < n → (n == 0) ≡ false
some_bytes n some = grind (arith, nat_tests)

lines_some : (x : ℕ) (xs : List ℕ) → IsSome (lines (x ∷ xs))
lines_some x xs = by (is_line_feed x) (slice_split is_line_feed xs) (parts_some xs)
  where
    by : (b : Bool) (parts : List (List ℕ)) → IsSome parts
        → IsSome (lines_of_parts (cond b ([] ∷ parts) (onto_first x parts)))
    by true parts some = (strip_carriage_return [], lines_of_parts parts, behind_part [] parts some)
    by false [] some = (x ∷ [], [], refl)
    by false (part ∷ []) some =
        (x ∷ part, [], ap (λ t. if t then [] else (x ∷ part) ∷ []) (some_bytes (length (x ∷ part)) (omega arith)))
    by false (part ∷ next ∷ more) some = (strip_carriage_return (x ∷ part), lines_of_parts (next ∷ more), refl)

not_feed : (b : ℕ) → b ≢ 10 → is_line_feed b ≡ false
not_feed b other = grind (arith, nat_tests)

-- a line that ends
line_first : (line after : List ℕ) → All (λ b. b ≢ 10) line
    → lines (line ++ 10 ∷ after) ≡ strip_carriage_return line ∷ lines after
line_first line after unended =
    ap lines_of_parts (slice_split_at is_line_feed line 10 after (λ k d h. not_feed _ (unended k d h)) refl)
    ∙ behind_part line (slice_split is_line_feed after) (parts_some after)

-- a line that began before these bytes ends in them
line_in : (begun bytes front after : List ℕ) → All (λ b. b ≢ 10) begun → All (λ b. b ≢ 10) front
    → bytes ≡ front ++ 10 ∷ after → (rest : List ℕ)
    → lines ((begun ++ bytes) ++ rest) ≡ strip_carriage_return (begun ++ front) ∷ lines (after ++ rest)
line_in begun bytes front after first second e rest =
    ap lines (ap (λ l. (begun ++ l) ++ rest) e ∙ regrouped)
    ∙ line_first (begun ++ front) (after ++ rest) (All-append (λ b. b ≢ 10) begun front first second)
  where
    regrouped : (begun ++ (front ++ 10 ∷ after)) ++ rest ≡ (begun ++ front) ++ 10 ∷ (after ++ rest)
    regrouped = ap (λ l. l ++ rest) (sym (append_assoc begun front (10 ∷ after)))
        ∙ append_assoc (begun ++ front) (10 ∷ after) rest

-- the same of what the code has in its hands
pub ends_here : (begun bytes new slice line cleared after : List ℕ) → All (λ b. b ≢ 10) begun
    → Fills begun bytes new (Some after) → slice ≡ new → line ≡ strip_carriage_return slice → cleared ≡ []
    → (rest : List ℕ) → lines ((begun ++ bytes) ++ rest) ≡ line ∷ lines ((cleared ++ after) ++ rest)
ends_here begun bytes new slice line cleared after unended (front, is, lacks, split) same stripped none rest =
    line_in begun bytes front after unended lacks split rest
    ∙ ap (λ l. l ∷ lines (after ++ rest)) (sym (stripped ∙ ap strip_carriage_return (same ∙ is)))
    ∙ ap (λ l. line ∷ lines ((l ++ after) ++ rest)) (sym none)

pub some_lines : (begun bytes rest : List ℕ) → 0 < length bytes → IsSome (lines ((begun ++ bytes) ++ rest))
some_lines [] [] rest h = absurd (omega (arith, h))
some_lines [] (x ∷ xs) rest h = lines_some x (xs ++ rest)
some_lines (x ∷ xs) bytes rest h = lines_some x ((xs ++ bytes) ++ rest)

-- a line that lacks its end
pub line_last : (begun : List ℕ) → All (λ b. b ≢ 10) begun → 0 < length begun → lines begun ≡ begun ∷ []
line_last begun unended some =
    ap lines_of_parts (slice_split_none is_line_feed begun (λ k d h. not_feed _ (unended k d h)))
    ∙ ap (λ t. if t then [] else begun ∷ []) (some_bytes (length begun) some)

pub none_unended : (begun : List ℕ) → begun ≡ [] → All (λ b. b ≢ 10) begun
none_unended begun e = subst (All (λ b. b ≢ 10)) (sym e) (λ k d h. absurd (omega (arith, h)))

pub nothing_more : (begun bytes : List ℕ) → length bytes ≡ 0 → begun ++ bytes ≡ begun
nothing_more begun [] e = append-nil begun
nothing_more begun (x ∷ xs) e = absurd (omega (arith, e))

-- ---- what becomes of them

-- no line ends
pub nothing_whole : (text begun : List ℕ) → text ≡ begun → All (λ b. b ≢ 10) begun → Cuts text [] begun
nothing_whole text begun e unended = record { first = λ rest. ap (λ l. lines (l ++ rest)) e; unended = unended }

module _ {F : Type 0} (closures : LineReader F) where
  -- memory may be wanting at any line
  pub stops_wanting : (closure : F) (all : List (List ℕ)) → IsSome all → StopsAtLine closures closure all OutOfMemory
  stops_wanting closure all (line, more, e) =
      subst (λ ls. StopsAtLine closures closure ls OutOfMemory) (sym e) (inr (inl refl))

  pub stops_here : (closure : F) (line : List ℕ) (more all : List (List ℕ)) (error : Error) → all ≡ line ∷ more
      → (IsFault closures closure line error ⊎ (error ≡ OutOfMemory)) → StopsAtLine closures closure all error
  stops_here closure line more all error e why =
      subst (λ ls. StopsAtLine closures closure ls error) (sym e)
      (⊎_elim (λ fault. inl fault) (λ wanting. inr (inl wanting)) why)

  module _ (with_expired : Bool) (now : ℤ) where
    pub stops_behind : (closure mid : F) (old new : List Row) (line : List ℕ) (more all : List (List ℕ)) (error : Error)
        → all ≡ line ∷ more → TakesOne closures with_expired now closure old line mid new
        → StopsAtLine closures mid more error → StopsAtLine closures closure all error
    stops_behind closure mid old new line more all error e (row, utf8, makes, put) later =
        subst (λ ls. StopsAtLine closures closure ls error) (sym e) (inr (inr (row, mid, utf8, makes, later)))

    pub takes_none : (closure : F) (rows : List Row) (text begun : List ℕ) → text ≡ begun → All (λ b. b ≢ 10) begun
        → TakesWhole closures with_expired now closure rows text closure rows begun
    takes_none closure rows text begun e unended =
        ([], [], nothing_whole text begun e unended, refl, sym (none_kept with_expired now rows))

    pub takes_unended : (closure : F) (rows : List Row) (begun bytes new : List ℕ) → All (λ b. b ≢ 10) begun
        → Fills begun bytes new None
        → TakesWhole closures with_expired now closure rows (begun ++ bytes) closure rows new
    takes_unended closure rows begun bytes new unended (is, lacks) =
        takes_none closure rows (begun ++ bytes) new (sym is)
        (subst (All (λ b. b ≢ 10)) (sym is) (All-append (λ b. b ≢ 10) begun bytes unended lacks))

    pub takes_behind : (closure mid last : F) (old new end : List Row) (line text more begun : List ℕ)
        → ((rest : List ℕ) → lines (text ++ rest) ≡ line ∷ lines (more ++ rest))
        → TakesOne closures with_expired now closure old line mid new
        → TakesWhole closures with_expired now mid new more last end begun
        → TakesWhole closures with_expired now closure old text last end begun
    takes_behind closure mid last old new end line text more begun e (row, utf8, makes, put)
        (whole, made, cut, taken, placed) = (
          line ∷ whole,
          row ∷ made,
          record {
            first = λ rest. e rest ∙ ap (λ ls. line ∷ ls) (cut.first rest);
            unended = cut.unended;
          },
          (mid, utf8, makes, taken),
          placed ∙ ap (kept with_expired now made) put ∙ sym (kept_first with_expired now row made old),
        )

    pub takes_rest : (closure after : F) (old new : List Row) (begun : List ℕ) → lines begun ≡ begun ∷ []
        → TakesOne closures with_expired now closure old begun after new
        → TakesRest closures with_expired now closure old begun after new
    takes_rest closure after old new begun e (row, utf8, makes, put) = (
      row ∷ [],
      subst (λ ls. TakesLines closures closure ls (row ∷ []) after) (sym e) (after, utf8, makes, refl),
      put,
    )

    pub takes_no_rest : (closure : F) (rows : List Row) (begun : List ℕ) → length begun ≡ 0
        → TakesRest closures with_expired now closure rows begun closure rows
    takes_no_rest closure rows [] e = ([], refl, sym (none_kept with_expired now rows))
    takes_no_rest closure rows (x ∷ xs) e = absurd (omega (arith, e))
