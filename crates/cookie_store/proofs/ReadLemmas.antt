-- Lines of what is read, chunk by chunk.
use Rattle.std.proofs.Common.{◌≡◌, ℕ, ℤ, Bool, List, [], ◌∷◌, ◌++◌, take, refl, sym, ap, subst, ◌∙◌, arith}
use Rattle.std.proofs.lemmas.Grind.{common_steps}
use Rattle.std.proofs.Common.{append_assoc, append-nil, inl, inr, ◌-◌, ◌^◌}
use Rattle.std.specs.Prelude.{◌⊎◌, Option, Some, None, IfSome}
use Rattle.std.specs.Io.KnownBytes.{Consumes, IsAtEnd}
use Rattle.std.specs.Str.Lines.{lines}
use Rattle.std.proofs.KnownBytes.{Consumes-trans}
use Rattle.devices.specs.Device.{Rose, one_more}
use Rattle.store_parts.specs.declared.error.Error.{Error}
use Rattle.cookie_store.specs.LoadedLines.{Cuts, Input, LoadsLinesBy, LineReader, StopsAtLine, StopsLoadingLines}
use Rattle.cookie_store.specs.LoadedLines.{StopsReadingBy}
use Rattle.cookie_store.specs.LoadedLines.{TakesLines}
use Rattle.cookie_store.specs.Rows.{Row, Store}
use Rattle.cookie_store.specs.Steps.{TakesRest, TakesWhole}
use Rattle.cookie_store.proofs.LineLemmas.{none_unended, nothing_whole}
use Rattle.cookie_store.proofs.LoadLemmas.{kept, kept_append, none_kept}

-- what a reader had, where that is known
had : (a b : Option (List ℕ)) (text : List ℕ) → Consumes a b text
    → (rest : List ℕ) × IfSome a (λ left. text ++ rest ≡ left)
had None b text read = ([], tt)
had (Some xs) None text read = absurd read
had (Some xs) (Some ys) text read = (ys, sym read)

had_all : (a b : Option (List ℕ)) (text : List ℕ) → Consumes a b text → IsAtEnd b → IfSome a (λ left. text ≡ left)
had_all None b text read ended = tt
had_all (Some xs) None text read ended = absurd read
had_all (Some xs) (Some ys) text read ended = sym (read ∙ ap (λ l. text ++ l) ended ∙ append-nil text)

pub read_none : (a b c : Option (List ℕ)) (text buf : List ℕ) (n : ℕ) → n ≡ 0 → Consumes a b text
    → Consumes b c (take n buf) → Consumes a c text
read_none a b c text buf n none first second =
    subst (Consumes a c) (append-nil text)
    (Consumes-trans a b c text [] first (subst (λ k. Consumes b c (take k buf)) none second))

pub rose_by_one : (first old new : ℕ) → old ≡ first → new ≡ one_more old → Rose first new
rose_by_one first old new same more = grind (arith, common_steps)

module _ {F : Type 0} (closures : LineReader F) where
  lines_append : (first mid last : F) (xs ys : List (List ℕ)) (rows more : List Row)
      → TakesLines closures first xs rows mid → TakesLines closures mid ys more last
      → TakesLines closures first (xs ++ ys) (rows ++ more) last
  lines_append first mid last [] ys [] more a b = subst (λ f. TakesLines closures f ys more last) (sym a) b
  lines_append first mid last [] ys (row ∷ rows) more a b = absurd a
  lines_append first mid last (x ∷ xs) ys [] more a b = absurd a
  lines_append first mid last (x ∷ xs) ys (row ∷ rows) more (next, utf8, makes, later) b =
      (next, utf8, makes, lines_append next mid last xs ys rows more later b)

  stops_append : (first mid : F) (xs ys : List (List ℕ)) (rows : List Row) (error : Error)
      → TakesLines closures first xs rows mid → StopsAtLine closures mid ys error
      → StopsAtLine closures first (xs ++ ys) error
  stops_append first mid [] ys [] error a b = subst (λ f. StopsAtLine closures f ys error) (sym a) b
  stops_append first mid [] ys (row ∷ rows) error a b = absurd a
  stops_append first mid (x ∷ xs) ys [] error a b = absurd a
  stops_append first mid (x ∷ xs) ys (row ∷ rows) error (next, utf8, makes, later) b =
      inr (inr (row, next, utf8, makes, stops_append next mid xs ys rows error later b))

  module _ (with_expired : Bool) (now : ℤ) where
    -- nothing was read yet
    pub takes_start : (closure : F) (rows : List Row) (begun : List ℕ) → rows ≡ [] → begun ≡ []
        → TakesWhole closures with_expired now closure [] [] closure rows begun
    takes_start closure rows begun none empty = (
      [],
      [],
      nothing_whole [] begun (sym empty) (none_unended begun empty),
      refl,
      none ∙ sym (none_kept with_expired now []),
    )

    -- more was read
    pub takes_more : (first mid last : F) (old new end : List Row) (text begun bytes later : List ℕ)
        → TakesWhole closures with_expired now first old text mid new begun
        → TakesWhole closures with_expired now mid new (begun ++ bytes) last end later
        → TakesWhole closures with_expired now first old (text ++ bytes) last end later
    takes_more first mid last old new end text begun bytes later (whole, made, cut, taken, placed)
        (whole-2, made-2, cut-2, taken-2, placed-2) = (
          whole ++ whole-2,
          made ++ made-2,
          record {
            first = λ rest.
                ap lines (append_assoc text bytes rest) ∙ cut.first (bytes ++ rest)
                ∙ ap (λ l. whole ++ lines l) (sym (append_assoc begun bytes rest))
                ∙ ap (λ ls. whole ++ ls) (cut-2.first rest)
                ∙ sym (append_assoc whole whole-2 (lines (later ++ rest)));
            unended = cut-2.unended;
          },
          lines_append first mid last whole whole-2 made made-2 taken taken-2,
          placed-2 ∙ ap (kept with_expired now made-2) placed ∙ sym (kept_append with_expired now made made-2 old),
        )

    -- a line of what was read is at fault
    pub stops_more : (first mid : F) (old new : List Row) (text begun bytes : List ℕ) (error : Error) (a b : Input)
        (held : Option (List ℕ))
        → TakesWhole closures with_expired now first old text mid new begun → Consumes a.left held text
        → Consumes held b.left bytes → b.failures ≡ a.failures
        → ((rest : List ℕ) → StopsAtLine closures mid (lines ((begun ++ bytes) ++ rest)) error)
        → StopsLoadingLines closures first a b error
    stops_more first mid old new text begun bytes error a b held (whole, made, cut, taken, placed) read more steady
        stops =
        let h = had a.left b.left (text ++ bytes) (Consumes-trans a.left held b.left text bytes read more) in
        inl (
          steady,
          (text ++ bytes) ++ h.0,
          h.1,
          subst (λ ls. StopsAtLine closures first ls error)
              (sym (ap lines (append_assoc text bytes h.0) ∙ cut.first (bytes ++ h.0)
              ∙ ap (λ l. whole ++ lines l) (sym (append_assoc begun bytes h.0))))
              (stops_append first mid whole (lines ((begun ++ bytes) ++ h.0)) made error taken (stops h.0)),
        )

    lines_whole : (text begun : List ℕ) (whole : List (List ℕ)) → Cuts text whole begun
        → lines text ≡ whole ++ lines begun
    lines_whole text begun whole cut =
        ap lines (sym (append-nil text)) ∙ cut.first [] ∙ ap (λ l. whole ++ lines l) (append-nil begun)

    -- the line that lacks its end is at fault
    pub stops_last : (first mid : F) (old new : List Row) (text begun : List ℕ) (error : Error) (a b : Input)
        → TakesWhole closures with_expired now first old text mid new begun → Consumes a.left b.left text
        → IsAtEnd b.left → b.failures ≡ a.failures → (line : List ℕ) → line ≡ begun
        → StopsAtLine closures mid (lines line) error → StopsLoadingLines closures first a b error
    stops_last first mid old new text begun error a b (whole, made, cut, taken, placed) read ended steady line same
        stops =
        inl (
          steady,
          text,
          had_all a.left b.left text read ended,
          subst (λ ls. StopsAtLine closures first ls error) (sym (lines_whole text begun whole cut))
              (stops_append first mid whole (lines begun) made error taken
              (subst (λ l. StopsAtLine closures mid (lines l) error) same stops)),
        )

    -- all lines were taken
    pub loads_all : (first mid last : F) (new end : List Row) (text begun : List ℕ) (a b : Input) (store : Store)
        → TakesWhole closures with_expired now first [] text mid new begun → Consumes a.left b.left text
        → IsAtEnd b.left → b.failures ≡ a.failures → TakesRest closures with_expired now mid new begun last end
        → store ≡ record { rows = end; suffixes = [] } → LoadsLinesBy closures first with_expired now a b store
    loads_all first mid last new end text begun a b store (whole, made, cut, taken, placed) read ended steady
        (made-2, taken-2, placed-2) is =
        record {
          text = text;
          read = read;
          ended = ended;
          failures = steady;
          rows = made ++ made-2;
          last = last;
          taken = subst (λ ls. TakesLines closures first ls (made ++ made-2) last) (sym (lines_whole text begun whole
              cut))
              (lines_append first mid last whole (lines begun) made made-2 taken taken-2);
          placed = is ∙ ap (λ rows. the_store rows) (placed-2 ∙ ap (kept with_expired now made-2) placed
              ∙ sym (kept_append with_expired now made made-2 []));
        }
      where
        the_store : List Row → Store
        the_store rows = record { rows = rows; suffixes = [] }

    -- a read failed, or there were too many
    pub stops_reading : (first mid : F) (new : List Row) (text begun : List ℕ) (a b : Input)
        → TakesWhole closures with_expired now first [] text mid new begun → Consumes a.left b.left text
        → (Rose a.failures b.failures ⊎ (b.reads ≡ 2 ^ 64 - 1)) → StopsReadingBy closures first a b
    stops_reading first mid new text begun a b (whole, made, cut, taken, placed) read failed =
        record {
          failed = failed;
          text = text;
          read = read;
          whole = whole;
          begun = begun;
          cut = cut;
          rows = made;
          last = mid;
          taken = taken;
        }
