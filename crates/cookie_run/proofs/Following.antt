-- A line of a script is read, and then done.
use Rattle.std.proofs.Common.{Vec, Global, ◌≡◌, ◌≢◌, ◌⊎◌, ℕ, ℤ, ◌<◌, arith, Bool, true, false, List, [], ◌∷◌, ◌++◌}
use Rattle.std.proofs.Common.{length, Option, Result, Ok, Err, inl, inr, sym, refl, ap, ◌∙◌, subst, append-nil}
use Rattle.std.specs.Prelude.{if◌then◌else◌, IfOk, IfErr, is_err, ◌==◌}
use Rattle.std.specs.Str.{bytes_eq}
use Rattle.std.proofs.lemmas.Bool.Decides.{nat_tests}
use Rattle.std.proofs.lemmas.Bool.{false≢true}
use Rattle.url.specs.Parts.{Parts}
use Rattle.cookie_client.specs.declared.outcome.LineEnd.{LineEnd}
use Rattle.cookie_client.specs.Accept.{AcceptsAll, Takes}
use Rattle.cookie_run.specs.ScriptLine as spec
use Rattle.cookie_run.specs.Drawn.{Draw}
use Rattle.cookie_run.specs.ScriptDrawn.{LineFails}
use Rattle.cookie_run.specs.ScriptText.{Reached, obeyed, goes_back, done, after_line}
use Rattle.cookie_run.specs.Standing.{Stands, Goes, Halts}
use Rattle.cookie_run.specs.ScriptRead.{line_of}
use Rattle.cookie.specs.KeyRing.{Ring}
use Rattle.cookie_store.specs.Rows.{Row}
use Rattle.publicsuffix.specs.Rules.{Rule}
use Rattle.cookie_run.specs.declared.script.cause.Cause.{Cause}
use Rattle.cookie_run.specs.declared.script.cause.Cause.TheVariants.{Back, Memory}
use Rattle.cookie_run.specs.declared.script.line.Line.{Line}
use Rattle.cookie_run.specs.declared.script.visit.Visit.{Visit}
use Rattle.cookie_client.specs.declared.outcome.Stopped.{Stopped}
use Rattle.cookie_run.proofs.DrawnRuns.{draws_nil}
use Rattle.cookie_run.proofs.Halting.{no_memory, own_fault}

empty_line : (line : List ℕ) → line ≡ [] → bytes_eq line [] ≡ true
empty_line line e = ap (λ l. bytes_eq l []) e

some_line : (line : List ℕ) → 0 < length line → bytes_eq line [] ≡ false
some_line [] h = absurd (omega (arith, h))
some_line (b ∷ bs) h = refl

picks : {A : Type 0} (t : Bool) (x y : A) → t ≡ true → (if t then x else y) ≡ x
picks true x y e = refl
picks false x y e = absurd (false≢true e)

skips : {A : Type 0} (t : Bool) (x y : A) → t ≡ false → (if t then x else y) ≡ y
skips true x y e = absurd (false≢true (sym e))
skips false x y e = refl

-- an empty line is passed over
pub passes_over : (list : List Rule) (line : List ℕ) (ring : Ring) (rows : List Row) (last : ℤ)
    (visit : Option Visit) (text : List ℕ) → line ≡ [] → text ≡ [] → Goes [] list (λ r. after_line r line) ring rows
    last visit ring rows last visit text
passes_over list line ring rows last visit text e empty first start r output drawn s = (
  r,
  picks (bytes_eq line []) (Ok r) (done r (spec.read_line line)) (empty_line line e),
  record {
    told = s.told;
    front = s.front;
    done = s.done;
    here = s.here;
    draws = draws_nil drawn ∙ s.draws;
    plays = s.plays;
    is_open = s.is_open;
    answered = s.answered;
    prints = ap (λ t. output ++ t) empty ∙ (append-nil output ∙ s.prints);
    turned = s.turned;
    moment = s.moment;
  },
)

read_led : (r : Reached) (line : List ℕ) (read : Result spec.Line Cause) → 0 < length line → spec.read_line line ≡ read
    → after_line r line ≡ done r read
read_led r line read some e = skips (bytes_eq line []) (Ok r) (done r (spec.read_line line)) (some_line line some)
    ∙ ap (done r) e

-- its text has a fault
pub misreads : (list : List Rule) (line : List ℕ) (ring : Ring) (rows : List Row) (last : ℤ) (visit : Option Visit)
    (cause : Cause) → 0 < length line → (spec.read_line line ≡ Err cause) ⊎ (cause ≡ Memory)
    → Halts [] list (λ r. after_line r line) ring rows last visit cause rows
misreads list line ring rows last visit cause some (inl e) first start r output drawn s =
    own_fault drawn list first start ring rows r last visit output (after_line r line) cause s
    (read_led r line (Err cause) some e)
misreads list line ring rows last visit cause some (inr e) first start r output drawn s =
    no_memory drawn list first start ring rows r last visit output (after_line r line) cause s e

-- its moment is before the last
pub comes_back : (list : List Rule) (line : List ℕ) (ring : Ring) (rows : List Row) (last : ℤ) (visit : Option Visit)
    (read : Line) → 0 < length line → spec.read_line line ≡ Ok (line_of read)
    → goes_back last (line_of read) ≡ true → Halts [] list (λ r. after_line r line) ring rows last visit Back rows
comes_back list line ring rows last visit read some e back first start r output drawn s =
    own_fault drawn list first start ring rows r last visit output (after_line r line) Back s
    (read_led r line (Ok (line_of read)) some e ∙ picks (goes_back r.last (line_of read)) (Err Back)
    (obeyed r.acts r.ring r.last r.now (line_of read)) (subst (λ m. goes_back m (line_of read) ≡ true) s.moment back))

led : (drawn : List Draw) (list : List Rule) (first : Ring) (start : List Row) (ring : Ring) (rows : List Row)
    (r : Reached) (last : ℤ)
    (visit : Option Visit) (output line : List ℕ) (read : Line)
    → Stands drawn list first start r ring rows last visit output
    → 0 < length line → spec.read_line line ≡ Ok (line_of read) → goes_back last (line_of read) ≡ false
    → after_line r line ≡ obeyed r.acts r.ring r.last r.now (line_of read)
led drawn list first start ring rows r last visit output line read s some e forth =
    read_led r line (Ok (line_of read)) some e ∙ skips (goes_back r.last (line_of read)) (Err Back)
    (obeyed r.acts r.ring r.last r.now (line_of read)) (subst (λ m. goes_back m (line_of read) ≡ false) s.moment forth)

pub goes_on : (more : List Draw) (list : List Rule) (line : List ℕ) (ring new_ring : Ring) (rows new_rows : List Row)
    (last new_last : ℤ) (visit new_visit : Option Visit) (read : Line) (text : List ℕ) → 0 < length line
    → spec.read_line line ≡ Ok (line_of read) → goes_back last (line_of read) ≡ false
    → Goes more list (λ r. obeyed r.acts r.ring r.last r.now (line_of read)) ring rows last visit new_ring new_rows
    new_last new_visit text
    → Goes more list (λ r. after_line r line) ring rows last visit new_ring new_rows new_last new_visit text
goes_on more list line ring new_ring rows new_rows last new_last visit new_visit read text some e forth goes first start
    r output drawn
    s =
    let g = goes first start r output drawn s in
    (g.0, led drawn list first start ring rows r last visit output line read s some e forth ∙ g.1, g.2)

pub halts_there : (here : List Draw) (list : List Rule) (line : List ℕ) (ring : Ring) (rows new_rows : List Row)
    (last : ℤ) (visit : Option Visit) (read : Line) (cause : Cause) → 0 < length line
    → spec.read_line line ≡ Ok (line_of read) → goes_back last (line_of read) ≡ false
    → Halts here list (λ r. obeyed r.acts r.ring r.last r.now (line_of read)) ring rows last visit cause new_rows
    → Halts here list (λ r. after_line r line) ring rows last visit cause new_rows
halts_there here list line ring rows new_rows last visit read cause some e forth halts first start r output drawn s =
    subst (λ l. LineFails drawn here list first start r l cause output new_rows)
    (sym (led drawn list first start ring rows r last visit output line read s some e forth)) (halts first start r
    output drawn s)

-- ---- results

pub if_ok : {A E : Type 0} (r : Result A E) {P Q : A → Type 0} → ((x : A) → P x → Q x) → IfOk r P → IfOk r Q
if_ok (Ok x) f h = f x h
if_ok (Err e) f h = tt

pub if_err : {A E : Type 0} (r : Result A E) {P Q : E → Type 0} → ((e : E) → P e → Q e) → IfErr r P → IfErr r Q
if_err (Ok x) f h = tt
if_err (Err e) f h = f e h

pub takes_of : {E : Type 0} (list : List Rule) (rows new : List Row) (url : Parts) (at : ℤ) (lines : List (List ℕ))
    (r : Result (Vec LineEnd Global) E) → false ≡ is_err r
    → IfOk r (λ ends. AcceptsAll list rows url at lines ends.items new) → Takes list rows url at lines new
takes_of list rows new url at lines (Ok ends) e h = (ends.items, h)
takes_of list rows new url at lines (Err x) e h = absurd (false≢true e)

pub no_bytes : (bs : List ℕ) → true ≡ (length bs == 0) → bs ≡ []
no_bytes [] e = refl
no_bytes (b ∷ bs) e = absurd (grind (arith, nat_tests))

pub some_bytes : (bs : List ℕ) → false ≡ (length bs == 0) → 0 < length bs
some_bytes bs e = grind (arith, nat_tests)

-- memory was refused at a line
pub stopped_at : {A : Type 0} (r : Result A Stopped) (P : Stopped → Type 0) → true ≡ is_err r → IfErr r P
    → (stopped : Stopped) × P stopped
stopped_at (Ok x) P e h = absurd (false≢true (sym e))
stopped_at (Err x) P e h = (x, h)
