-- Loaded cookies, put among the rows one after another.
use Rattle.std.proofs.Common.{◌≡◌, Bool, true, false, List, [], ◌∷◌, ◌++◌, ℤ, refl, sym, ap, ◌∙◌}
use Rattle.std.specs.Prelude.{Result, Ok, map}
use Rattle.std.proofs.lemmas.Bool.{cond-true, cond-false}
use Rattle.std.proofs.lemmas.List.{map-append}
use Rattle.store_parts.specs.declared.error.Error.{Error}
use Rattle.cookie_store.specs.Placing.{chosen, loaded, put_all}
use Rattle.cookie_store.specs.Rows.{Row, is_live, live}
use Rattle.cookie_store.specs.StoredCookie.{stored_of}
use Rattle.cookie_store.specs.declared.stored_cookie.Cookie.{Cookie}

module _ (with_expired : Bool) (now : ℤ) where
  -- those of some rows that are kept, put among others
  abbrev pub kept : List Row → List Row → List Row
  kept loaded rows = put_all (chosen with_expired now loaded) rows

live_first : (now : ℤ) (row : Row) (more rows : List Row)
    → kept false now (row ∷ more) rows ≡ kept false now more (kept false now (row ∷ []) rows)
live_first now row more rows = by (is_live now row) refl
  where
    by : (b : Bool) → is_live now row ≡ b
        → kept false now (row ∷ more) rows ≡ kept false now more (kept false now (row ∷ []) rows)
    by true e = ap (λ l. put_all l rows) (cond-true (is_live now row) _ _ e)
        ∙ sym (ap (λ l. put_all (live now more) (put_all l rows)) (cond-true (is_live now row) _ _ e))
    by false e = ap (λ l. put_all l rows) (cond-false (is_live now row) _ _ e)
        ∙ sym (ap (λ l. put_all (live now more) (put_all l rows)) (cond-false (is_live now row) _ _ e))

pub kept_first : (with_expired : Bool) (now : ℤ) (row : Row) (more rows : List Row)
    → kept with_expired now (row ∷ more) rows ≡ kept with_expired now more (kept with_expired now (row ∷ []) rows)
kept_first true now row more rows = refl
kept_first false now row more rows = live_first now row more rows

pub none_kept : (with_expired : Bool) (now : ℤ) (rows : List Row) → kept with_expired now [] rows ≡ rows
none_kept true now rows = refl
none_kept false now rows = refl

pub kept_append : (with_expired : Bool) (now : ℤ) (first later rows : List Row)
    → kept with_expired now (first ++ later) rows ≡ kept with_expired now later (kept with_expired now first rows)
kept_append w now [] later rows = ap (kept w now later) (sym (none_kept w now rows))
kept_append w now (x ∷ xs) later rows =
    kept_first w now x (xs ++ later) rows
    ∙ kept_append w now xs later (kept w now (x ∷ []) rows)
    ∙ ap (kept w now later) (sym (kept_first w now x xs rows))

-- one cookie more of an iterator
pub gives_more : (cookies : List Cookie) (cookie : Cookie) (given : List (Result Cookie Error))
    (item : Result Cookie Error) → given ≡ map Ok cookies → item ≡ Ok cookie
    → given ++ item ∷ [] ≡ map Ok (cookies ++ cookie ∷ [])
gives_more cookies cookie given item all last =
    (λ i. all i ++ last i ∷ []) ∙ sym (map-append Ok cookies (cookie ∷ []))

pub loads_more : (with_expired : Bool) (now : ℤ) (cookies : List Cookie) (cookie : Cookie) (old new : List Row)
    → old ≡ loaded with_expired now (map stored_of cookies)
    → new ≡ kept with_expired now (stored_of cookie ∷ []) old
    → new ≡ loaded with_expired now (map stored_of (cookies ++ cookie ∷ []))
loads_more w now cookies cookie old new before put =
    put ∙ ap (kept w now (stored_of cookie ∷ [])) before
    ∙ sym (kept_append w now (map stored_of cookies) (stored_of cookie ∷ []) [])
    ∙ ap (loaded w now) (sym (map-append stored_of cookies (cookie ∷ [])))
