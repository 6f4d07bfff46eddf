-- An answer touches the rows that its host may.
use Rattle.std.proofs.Common.{◌≡◌, ℕ, ℤ, List, [], ◌∷◌, sym, refl, ap, ◌∙◌, subst, inl, inr, Option, Result, Ok, Err}
use Rattle.std.specs.Prelude.{◌⊎◌}
use Rattle.std.specs.List.{AllByRecursion}
use Rattle.url.specs.Parts.{Parts}
use Rattle.cookie_text.specs.declared.error.ParseError.{ParseError}
use Rattle.cookie_text.specs.Record.{Seen}
use Rattle.publicsuffix.specs.Rules.{Rule}
use Rattle.store_parts.specs.Schemes.{host_of}
use Rattle.store_parts.specs.declared.error.CookieError.{CookieError}
use Rattle.cookie_store.specs.Confined.{IsAlone, IsConfined, IsOneOf}
use Rattle.cookie_store.specs.Insertion.{End, InsertsRead}
use Rattle.cookie_store.specs.Laws.{InsertionIsConfined}
use Rattle.cookie_store.specs.Rows.{Row, expired}
use Rattle.cookie_store.specs.declared.action.StoreAction.{StoreAction}
use Rattle.cookie_client.specs.Accept.{Accepts, AcceptsAll}
use Rattle.cookie_client.specs.declared.outcome.LineEnd.{LineEnd}

-- each of some rows is one of them
each_weaker : {A : Type 0} (P Q : A → Type 0) → ((x : A) → P x → Q x) → (xs : List A) → AllByRecursion P xs
    → AllByRecursion Q xs
each_weaker P Q weaker [] all = tt
each_weaker P Q weaker (x ∷ xs) all = (weaker x all.0, each_weaker P Q weaker xs all.1)

each_one : (rows : List Row) → AllByRecursion (IsOneOf rows) rows
each_one [] = tt
each_one (r ∷ rows) = (
  inl refl,
  each_weaker (IsOneOf rows) (IsOneOf (r ∷ rows)) (λ x one. inr (inr one)) rows (each_one rows),
)

-- an ended row that is one of them is so still
ended_one : (rows : List Row) (r : Row) → IsOneOf rows r → IsOneOf rows (expired r)
ended_one [] r one = one
ended_one (x ∷ xs) r (inl is) = inr (inl (ap expired is))
ended_one (x ∷ xs) r (inr (inl is)) = inr (inl (ap expired is))
ended_one (x ∷ xs) r (inr (inr one)) = inr (inr (ended_one xs r one))

module _ (list : List Rule) (host : Option (List ℕ)) where
  -- an old row, or one of its host alone
  abbrev IsOldOrAlone : List Row → Row → Type 0
  IsOldOrAlone old r = IsOneOf old r ⊎ IsAlone list r

  still : (old : List Row) (x r : Row) → IsOldOrAlone old x → (r ≡ x) ⊎ (r ≡ expired x) → IsOldOrAlone old r
  still old x r is (inl same) = subst (IsOldOrAlone old) (sym same) is
  still old x r (inl one) (inr same) = inl (subst (IsOneOf old) (sym same) (ended_one old x one))
  still old x r (inr is) (inr same) = inr (subst (IsAlone list) (sym same) is)

  one_later : (old mid : List Row) → AllByRecursion (IsOldOrAlone old) mid → (r : Row) → IsOneOf mid r
      → IsOldOrAlone old r
  one_later old [] all r one = absurd one
  one_later old (x ∷ xs) all r (inl is) = still old x r all.0 (inl is)
  one_later old (x ∷ xs) all r (inr (inl is)) = still old x r all.0 (inr is)
  one_later old (x ∷ xs) all r (inr (inr one)) = one_later old xs all.1 r one

  later_each : (old mid : List Row) → AllByRecursion (IsOldOrAlone old) mid → (r : Row) → IsOldOrAlone mid r
      → IsOldOrAlone old r
  later_each old mid all r (inl one) = one_later old mid all r one
  later_each old mid all r (inr is) = inr is

  same_rows : (rows new : List Row) → new ≡ rows → IsConfined list host rows new
  same_rows rows new is = subst (IsConfined list host rows) (sym is) (record {
    others = λ text may. refl;
    each = each_weaker (IsOneOf rows) (IsOldOrAlone rows) (λ x one. inl one) rows (each_one rows);
    alone = λ all. all;
  })

  in_turn : (rows mid new : List Row) → IsConfined list host rows mid → IsConfined list host mid new
      → IsConfined list host rows new
  in_turn rows mid new first later = record {
    others = λ text may. later.others text may ∙ first.others text may;
    each = each_weaker (IsOldOrAlone mid) (IsOldOrAlone rows) (later_each rows mid first.each) new later.each;
    alone = λ all. later.alone (first.alone all);
  }

read_confined : (law : InsertionIsConfined) (list : List Rule) (url : Parts) (now : ℤ) (rows new : List Row)
    (answer : Result StoreAction CookieError) (read : Result Seen ParseError)
    → InsertsRead list rows url now read (answer, new) → IsConfined list (host_of url) rows new
read_confined law list url now rows new answer (Err e) h =
    same_rows list (host_of url) rows new (ap (λ (p : End). p.1) h)
read_confined law list url now rows new answer (Ok s) (inl refused) =
    same_rows list (host_of url) rows new (ap (λ (p : End). p.1) refused.3)
read_confined law list url now rows new answer (Ok s) (inr made) =
    law list rows url now made.0 (answer, new) made.2

line_confined : (law : InsertionIsConfined) (list : List Rule) (url : Parts) (now : ℤ) (rows new : List Row)
    (line : List ℕ) (end : LineEnd) → Accepts list rows url now line end new
    → IsConfined list (host_of url) rows new
line_confined law list url now rows new line end (inl against) = same_rows list (host_of url) rows new against.2
line_confined law list url now rows new line end (inr (free, inl wrong)) =
    same_rows list (host_of url) rows new wrong.2
line_confined law list url now rows new line end (inr (free, inr right)) =
    read_confined law list url now rows new right.1.2.0 right.1.0 right.1.2.1

pub answer_confined : (law : InsertionIsConfined) (list : List Rule) (url : Parts) (now : ℤ) (lines : List (List ℕ))
    (rows : List Row) (ends : List LineEnd) (new : List Row) → AcceptsAll list rows url now lines ends new
    → IsConfined list (host_of url) rows new
answer_confined law list url now [] rows ends new t = same_rows list (host_of url) rows new t.1
answer_confined law list url now (line ∷ lines) rows [] new t = absurd t
answer_confined law list url now (line ∷ lines) rows (e ∷ ends) new t =
    in_turn list (host_of url) rows t.0 new (line_confined law list url now rows t.0 line e t.1)
    (answer_confined law list url now lines t.0 ends new t.2)
