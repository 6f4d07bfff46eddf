-- The rows that a play leaves came from lines: they are saved and come back, whatever their raw cookies.
use Rattle.std.proofs.Common.{Bool, ◌≡◌, ℕ, ℤ, pos, true, List, [], ◌∷◌, sym, refl, ap, ◌∙◌}
use Rattle.std.proofs.Common.{◌*◌, ◌≤ℤ◌, ◌<ℤ◌, subst, inl, inr, Option, Some, None, arith, Ok}
use Rattle.std.specs.Prelude.{not, option_map, IfSome}
use Rattle.std.specs.Str.{IsUtf8}
use Rattle.std.specs.List.{AllByRecursion}
use Rattle.std.proofs.lemmas.Bool.{both_ways}
use Rattle.std.proofs.lemmas.Int.{ints}
use Rattle.jiff.proofs.SpanFacts.{signed_arith}
use Rattle.jiff.proofs.Family.{civil_nanos-civil_seconds}
use Rattle.jiff.specs.Types.{DateTime}
use Rattle.jiff.specs.Words.{civil_nanos, civil_seconds}
use Rattle.url.specs.Parts.{Parts}
use Rattle.publicsuffix.specs.Rules.{Rule}
use Rattle.cookie.specs.Jar.{Jar}
use Rattle.cookie_text.specs.Again.{IsReadPair, TextsGivePairs, PairsReadAgain}
use Rattle.cookie_text.specs.Reading.{HasAttributes, HasLast, GivesAge, GivesEnd, ReadsPlain}
use Rattle.cookie_text.specs.ReadingBack.{Pairwise}
use Rattle.cookie_text.specs.Record.{Record, Seen, moment_of, unsliced}
use Rattle.cookie_text.specs.declared.expiration.Expiration.{Expiration}
use Rattle.store_parts.specs.Expiry.{death, is_dead}
use Rattle.store_parts.specs.declared.error.Error.{Error}
use Rattle.store_parts.specs.declared.error.Error.TheVariants.{OutOfMemory}
use Rattle.cookie_store.specs.Making.{IsMade}
use Rattle.cookie_store.specs.Placing.{is_saved, saved}
use Rattle.cookie_store.specs.Rows.{Row, is_live, live}
use Rattle.cookie_store.specs.SavedRows.{IsReread, IsBeforeYears}
use Rattle.cookie_store.specs.SavedTexts.{IsAnyBeforeYears, IsSaveFault}
use Rattle.cookie_client.specs.Accept.{AcceptsAll}
use Rattle.cookie_client.specs.Steps.{Act, Visits, Answers, Asks, Restarts, Arrival, Arrives, Never, Delivers, OneStep}
use Rattle.cookie_run.specs.Acts.{moments_in, moments_of}
use Rattle.cookie_client.specs.HostPrefix.{IsAgainstHost}
use Rattle.cookie_client.specs.Keeping.{Keeps, HasReadPair, HaveReadPairs, IsSameRow, ComesBack}
use Rattle.cookie_run.specs.Moments.{AllFollow, IsMoment}
use Rattle.cookie_client.specs.Moment.{second_1971}
use Rattle.cookie_run.specs.Play.{Plays}
use Rattle.cookie_client.specs.declared.outcome.LineEnd.{LineEnd}
use Rattle.cookie_client.specs.declared.command.Reading.{Reading}
use Rattle.cookie_run.proofs.ActMoments.{ends_at, front_follows}
use Rattle.cookie_run.proofs.Lines.{age_whole}
use Rattle.cookie_run.proofs.OwnRows.{IsWholeSecond}
use Rattle.cookie_run.proofs.Removals.{early_year}
use Rattle.cookie_run.proofs.Restarting.{whole_same}
use Rattle.cookie_client.proofs.ComingBack.{lines_from, pair_made, filter_all, saved_live, middle_of}

-- its name and value are as a text gives them, and its death is a whole second
abbrev pub IsFromLine : Row → Type 0
IsFromLine row = HasReadPair row × IfSome row.death IsWholeSecond

abbrev pub AreFromLines : List Row → Type 0
AreFromLines rows = AllByRecursion IsFromLine rows

pub line_pairs : (rows : List Row) → AreFromLines rows → HaveReadPairs rows
line_pairs [] all = tt
line_pairs (r ∷ rs) all = (all.0.0, line_pairs rs all.1)

-- ---- a whole second

whole_moment : (n : ℤ) → IsMoment n → IsWholeSecond n
whole_moment n m = (pos m.second, omega (arith, signed_arith, m.whole))

-- ---- a death that was read is a whole second

date_whole : (d : DateTime) → d.time.subsec_nanosecond ≡ 0 → IsWholeSecond (civil_nanos d)
date_whole d h = (civil_seconds d, omega (arith, signed_arith, civil_nanos-civil_seconds d, h))

end_read : (pieces : List (List ℕ)) (o : Option Expiration) → HasLast GivesEnd pieces o
    → IfSome (option_map civil_nanos (moment_of o)) IsWholeSecond
end_read pieces None h = tt
end_read pieces (Some e) h =
    let date = h.given in
    subst (λ x. IfSome (option_map civil_nanos (moment_of (Some x))) IsWholeSecond) (sym date.2)
    (date_whole date.0 date.1.says.2.2.whole)

death_read : (c : Record) (now : ℤ) (pieces : List (List ℕ)) → IsWholeSecond now → HasAttributes pieces c
    → IfSome (death c now) IsWholeSecond
death_read c now pieces time h = by c.max_age refl h.max_age
  where
    by : (o : Option ℤ) → c.max_age ≡ o → HasLast GivesAge pieces o → IfSome (death c now) IsWholeSecond
    by None e g = subst (λ o. IfSome (death (record c { max_age = o }) now) IsWholeSecond) (sym e)
        (end_read pieces c.expires h.expires)
    by (Some n) e g = subst (λ o. IfSome (death (record c { max_age = o }) now) IsWholeSecond) (sym e)
        (age_whole n now (g.given.0, g.given.2) time)

row_made : (give : TextsGivePairs) (line : List ℕ) (s : Seen) (url : Parts) (now : ℤ) (made : Row) → IsWholeSecond now
    → ¬ (IsAgainstHost url line) → IsUtf8 line
    → ReadsPlain line (Ok s) → IsMade (unsliced s.cookie) url now made → IsFromLine made
row_made give line s url now made time free utf8 reads h = (
  pair_made give line s url now made utf8 reads h,
  subst (λ o. IfSome o IsWholeSecond) (sym h.ends)
      (death_read s.cookie now reads.attributes.0 time reads.attributes.2),
)

from_lines : (give : TextsGivePairs) (list : List Rule) (url : Parts) (now : ℤ) (lines : List (List ℕ))
    (rows : List Row)
    (ends : List LineEnd) (new : List Row) → IsWholeSecond now → AreFromLines rows
    → AcceptsAll list rows url now lines ends new → AreFromLines new
from_lines give = lines_from IsFromLine (λ r h. (h.0, (pos 0, refl))) (λ r h. h) IsWholeSecond (row_made give)

-- ---- what is kept

same_rows : (rows new : List Row) → new ≡ rows → AreFromLines rows → AreFromLines new
same_rows rows new is all = subst AreFromLines (sym is) all

reread_from : (law : PairsReadAgain) (r x : Row) → IsFromLine r → IsReread r x → IsSameRow r x
reread_from law r x own g =
    let back = (law r.raw.cookie (Ok g.seen) own.0 g.reads).pair in
    record {
      domain = g.domain;
      path = g.path;
      name = ap (λ (s : Seen). s.cookie.name) g.raw ∙ back.0;
      value = ap (λ (s : Seen). s.cookie.value) g.raw ∙ back.1;
      death = whole_same r.death x.death own.1 g.death;
    }

pub comes_back : (law : PairsReadAgain) (row : Row) → IsFromLine row → ComesBack row
comes_back law row own = record {
  reads = λ outcome reads. (law row.raw.cookie outcome own.0 reads).accepted;
  same = λ read h. reread_from law row read own h;
}

-- what is read back is as it was
same_from_line : (r x : Row) → IsSameRow r x → IsFromLine r → IsFromLine x
same_from_line r x same own = (
  subst (λ n. IsReadPair n x.raw.cookie.value) (sym same.name)
      (subst (λ v. IsReadPair r.raw.cookie.name v) (sym same.value) own.0),
  subst (λ o. IfSome o IsWholeSecond) (sym same.death) own.1,
)

reread_all : (law : PairsReadAgain) (rows read : List Row) → AreFromLines rows → Pairwise IsReread rows read
    → AreFromLines read
reread_all law [] [] all p = tt
reread_all law [] (x ∷ xs) all p = absurd p
reread_all law (r ∷ rs) [] all p = absurd p
reread_all law (r ∷ rs) (x ∷ xs) all p =
    (same_from_line r x (reread_from law r x all.0 p.0) all.0, reread_all law rs xs all.1 p.1)

kept_from : (law : PairsReadAgain) (now : ℤ) (rows new : List Row) → AreFromLines rows → Keeps rows now now new
    → AreFromLines new
kept_from law now rows new all keeps = same_rows (live now keeps.read) new keeps.lives
    (filter_all IsFromLine (is_live now) keeps.read
    (reread_all law (saved now rows) keeps.read (filter_all IsFromLine (is_saved now) rows all) keeps.reread))

-- ---- a play

delivered_from : (give : TextsGivePairs) (list : List Rule) (url : Parts) (jar : Jar) (now : ℤ) (rows : List Row)
    (arrival : Arrival)
    (new : List Row) → AllFollow now (Rattle.cookie_run.specs.Acts.arrival_moments arrival) → AreFromLines rows
    → Delivers list rows url jar arrival new → AreFromLines new
delivered_from give list url jar now rows Never new f all d = same_rows rows new d all
delivered_from give list url jar now rows (Arrives at) new f all d =
    from_lines give list url at _ rows d.2.0 new (whole_moment at f.0.is_moment) all d.2.1

pub step_from : (b : Bool) (give : TextsGivePairs) (law : PairsReadAgain) (list : List Rule) (key : List ℕ) (last : ℤ)
    (rows new : List Row) (act : Act) (told : List Reading)
    → AllFollow last (moments_in act) → AreFromLines rows → OneStep b list key rows act told new → AreFromLines new
step_from b give law list key last rows new (Visits url at commands arrival) told f all s =
    delivered_from give list url s.2.0.jar at rows arrival new f.1 all s.2.2
step_from b give law list key last rows new (Answers url lines at) told f all s =
    from_lines give list url at lines rows s.1.0 new (whole_moment at f.0.is_moment) all s.1.1
step_from b give law list key last rows new (Asks url at) told f all s = same_rows rows new s.1 all
step_from b give law list key last rows new (Restarts at) told f all s = kept_from law at rows new all s.1

pub plays_from : (b : Bool) (give : TextsGivePairs) (law : PairsReadAgain) (list : List Rule) (key : List ℕ) (last : ℤ)
    (rows new : List Row) (acts : List Act)
    (told : List (List Reading)) → AllFollow last (moments_of acts) → AreFromLines rows
    → Plays b list key rows acts told new → AreFromLines new
plays_from b give law list key last rows new [] [] f all p = same_rows rows new p all
plays_from b give law list key last rows new [] (t ∷ ts) f all p = absurd p
plays_from b give law list key last rows new (a ∷ acts) [] f all p = absurd p
plays_from b give law list key last rows new (a ∷ acts) (t ∷ ts) f all p =
    let moments = front_follows last a (moments_of acts) f in
    plays_from b give law list key (ends_at a) p.0 new acts ts moments.1
    (step_from b give law list key last rows p.0 a t moments.0 all p.1)
    p.2

all_back : (law : PairsReadAgain) (rows : List Row) → AreFromLines rows → AllByRecursion ComesBack rows
all_back law [] all = tt
all_back law (r ∷ rs) all = (comes_back law r all.0, all_back law rs all.1)

pub plays_come_back : (b : Bool) (give : TextsGivePairs) (law : PairsReadAgain) (list : List Rule) (key : List ℕ)
    (last : ℤ)
    (rows : List Row) (acts : List Act)
    (told : List (List Reading)) → AllFollow last (moments_of acts) → Plays b list key [] acts told rows
    → AllByRecursion ComesBack rows
plays_come_back b give law list key last rows acts told f p = all_back law rows
    (plays_from b give law list key last [] rows acts told f tt p)

-- what is kept after a moment from 1971 on isn't of a year below 0
not_before : (now : ℤ) (row : Row) → pos (second_1971 * 1_000_000_000) ≤ℤ now → is_live now row ≡ true
    → ¬ (IsBeforeYears row.death)
not_before now row late lives is =
    let year : is.moment.date.year <ℤ pos 1970 = omega (arith, signed_arith, is.year) in
    let early = early_year is.moment year in
    let dead : is_dead now (Some (civil_nanos is.moment)) ≡ true = grind (arith, ints, early, late) in
    both_ways _ (ap not (ap (is_dead now) is.nanos ∙ dead)) lives

pub none_early : (now : ℤ) (rows : List Row) → pos (second_1971 * 1_000_000_000) ≤ℤ now
    → ¬ (IsAnyBeforeYears (saved now rows))
none_early now rows late any = not_before now any.row late
    (middle_of (λ r. is_live now r ≡ true) any.before any.row any.after
    (subst (AllByRecursion (λ r. is_live now r ≡ true)) any.split (saved_live now rows))) any.is

-- such a restart is refused for want of memory alone
pub only_memory : (now : ℤ) (rows : List Row) (e : Error) → pos (second_1971 * 1_000_000_000) ≤ℤ now
    → IsSaveFault (saved now rows) e → e ≡ OutOfMemory
only_memory now rows e late (inl early) = absurd (none_early now rows late early.1)
only_memory now rows e late (inr memory) = memory
