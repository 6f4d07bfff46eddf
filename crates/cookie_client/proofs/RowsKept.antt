-- Of the rows of a client a restart leaves some, each with its key, and want of memory alone refuses it.
use Rattle.std.proofs.Common.{◌≡◌, ℤ, pos, Bool, true, false, cond, List, [], ◌∷◌, sym, refl, ap, ◌∙◌, subst}
use Rattle.std.proofs.Common.{◌≤ℤ◌, ◌<ℤ◌, inl, inr, Some, Ok, arith}
use Rattle.std.specs.Prelude.{not}
use Rattle.std.specs.List.{AllByRecursion}
use Rattle.std.proofs.lemmas.Bool.{both_ways}
use Rattle.std.proofs.lemmas.Int.{ints}
use Rattle.cookie_text.specs.ReadingBack.{Pairwise}
use Rattle.cookie_text.specs.Record.{Seen}
use Rattle.jiff.specs.Types.{DateTime}
use Rattle.jiff.specs.Words.{civil_nanos}
use Rattle.jiff_core.proofs.DateLemmas.{epoch_day-lt}
use Rattle.jiff_core.proofs.DateTimeLemmas.{civil_nanos-lt}
use Rattle.jiff_core.proofs.SignedLemmas.{signed_arith}
use Rattle.store_parts.specs.Expiry.{is_dead}
use Rattle.store_parts.specs.declared.error.Error.{Error}
use Rattle.store_parts.specs.declared.error.Error.TheVariants.{OutOfMemory}
use Rattle.cookie_store.specs.Grouped.{IsSublist}
use Rattle.cookie_store.specs.Placing.{is_saved, saved}
use Rattle.cookie_store.specs.Rows.{Row, is_live, live}
use Rattle.cookie_store.specs.SavedRows.{IsReread, IsBeforeYears}
use Rattle.cookie_store.specs.SavedTexts.{IsAnyBeforeYears, IsSaveFault}
use Rattle.cookie_text.specs.Again.{PairsReadAgain}
use Rattle.cookie_client.specs.Keeping.{Keeps, HasReadPair, HaveReadPairs}
use Rattle.cookie_client.specs.KeptKeys.{IsRowKept, KeepsKeys}
use Rattle.cookie_client.proofs.ComingBack.{filter_all, middle_of, saved_live}

reread_keeps : (law : PairsReadAgain) (r x : Row) → HasReadPair r → IsReread r x → IsRowKept r x
reread_keeps law r x own h =
    let back = (law r.raw.cookie (Ok h.seen) own h.reads).pair in
    record {
      domain = h.domain;
      path = h.path;
      name = ap (λ (s : Seen). s.cookie.name) h.raw ∙ back.0;
      value = ap (λ (s : Seen). s.cookie.value) h.raw ∙ back.1;
      death = h.death;
    }

abbrev PartKept : List Row → List Row → Type 0
PartKept rows kept = (part : List Row) × IsSublist part rows × Pairwise IsRowKept part kept

-- a part of the later rows is one of all
pub later : (part rows : List Row) (r : Row) → IsSublist part rows → IsSublist part (r ∷ rows)
later [] rows r h = tt
later (p ∷ ps) rows r h = inr h

live_kept : (law : PairsReadAgain) (now : ℤ) (rows read : List Row) → HaveReadPairs rows
    → Pairwise IsReread rows read → PartKept rows (live now read)
live_kept law now [] [] own p = ([], tt, tt)
live_kept law now [] (x ∷ xs) own p = absurd p
live_kept law now (r ∷ rs) [] own p = absurd p
live_kept law now (r ∷ rs) (x ∷ xs) own p = by (is_live now x) (live_kept law now rs xs own.1 p.1)
  where
    by : (b : Bool) → PartKept rs (live now xs) → PartKept (r ∷ rs) (cond b (x ∷ live now xs) (live now xs))
    by true rest = (r ∷ rest.0, inl (refl, rest.1), (reread_keeps law r x own.0 p.0, rest.2))
    by false rest = (rest.0, later rest.0 rs r rest.1, rest.2)

pub keys_kept : (law : PairsReadAgain) (rows : List Row) (saving loading : ℤ) (kept : List Row) → HaveReadPairs rows
    → Keeps rows saving loading kept → KeepsKeys rows saving kept
keys_kept law rows saving loading kept own keeps =
    subst (PartKept (saved saving rows)) (sym keeps.lives)
    (live_kept law loading (saved saving rows) keeps.read (filter_all HasReadPair (is_saved saving) rows own)
    keeps.reread)

-- ---- a year below 0

earlier_year : (d e : DateTime) → d.date.year <ℤ e.date.year → civil_nanos d <ℤ civil_nanos e
earlier_year d e h = civil_nanos-lt d e (epoch_day-lt d.date e.date (inl h))

-- what isn't dead in the year 0 or later isn't of a year below 0
not_before : (now : DateTime) (row : Row) → pos 0 ≤ℤ now.date.year → is_live (civil_nanos now) row ≡ true
    → ¬ (IsBeforeYears row.death)
not_before now row late lives is =
    let year : is.moment.date.year <ℤ now.date.year = omega (arith, signed_arith, is.year, late) in
    let early = earlier_year is.moment now year in
    let dead : is_dead (civil_nanos now) (Some (civil_nanos is.moment)) ≡ true = grind (arith, ints, early) in
    both_ways _ (ap not (ap (is_dead (civil_nanos now)) is.nanos ∙ dead)) lives

none_before : (now : DateTime) (rows : List Row) → pos 0 ≤ℤ now.date.year
    → ¬ (IsAnyBeforeYears (saved (civil_nanos now) rows))
none_before now rows late any = not_before now any.row late
    (middle_of (λ r. is_live (civil_nanos now) r ≡ true) any.before any.row any.after
    (subst (AllByRecursion (λ r. is_live (civil_nanos now) r ≡ true)) any.split (saved_live (civil_nanos now) rows)))
    any.is

pub but_for_memory : (now : DateTime) (rows : List Row) (e : Error) → pos 0 ≤ℤ now.date.year
    → IsSaveFault (saved (civil_nanos now) rows) e → e ≡ OutOfMemory
but_for_memory now rows e late (inl early) = absurd (none_before now rows late early.1)
but_for_memory now rows e late (inr memory) = memory
