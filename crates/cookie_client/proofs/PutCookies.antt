-- Cookies that are put among those of a client.
use Rattle.std.proofs.Common.{◌≡◌, ℤ, true, List, [], ◌∷◌, ◌++◌, map, Option, Result, sym, refl, ap, ◌∙◌, subst}
use Rattle.std.proofs.Common.{inl, inr}
use Rattle.std.specs.Iterator.{AlwaysYields}
use Rattle.std.specs.List.{AllByRecursion}
use Rattle.std.proofs.lemmas.List.{append-nil, map-append}
use Rattle.store_parts.specs.declared.error.Error.{Error}
use Rattle.cookie_store.specs.Given.{ArePicked}
use Rattle.cookie_store.specs.Grouped.{AreGrouped, PartsStay}
use Rattle.cookie_store.specs.LoadedLines.{GivesStore}
use Rattle.cookie_store.specs.Placing.{put_all}
use Rattle.cookie_store.specs.Rows.{Row, Store, put}
use Rattle.cookie_store.specs.StoredCookie.{stored_of}
use Rattle.cookie_store.specs.declared.stored_cookie.Cookie.{Cookie}
use Rattle.cookie_client.specs.HostPrefix.{IsHeldRightly, AreHeldRightly}
use Rattle.cookie_client.proofs.ComingBack.{put_from}
use Rattle.cookie_client.proofs.HostRows.{alone_held, expired_held}
use Rattle.cookie_client.proofs.HeldCopies.{drained, ok_of, picked_part, same_cookies}

-- ---- what holds of each row

pub put_all_held : (rows old : List Row) → AreHeldRightly rows → AreHeldRightly old → AreHeldRightly (put_all rows old)
put_all_held [] old own all = all
put_all_held (r ∷ rs) old own all =
    put_all_held rs (put r old) own.1 (put_from IsHeldRightly expired_held alone_held r old own.0 all)

-- ---- a store of rows and of more

put_all_append : (xs ys old : List Row) → put_all (xs ++ ys) old ≡ put_all ys (put_all xs old)
put_all_append [] ys old = refl
put_all_append (x ∷ xs) ys old = put_all_append xs ys (put x old)

-- all of a list are picked where all are so
pub picked_whole : {A : Type 0} (Is : A → Type 0) (xs picked : List A) → AllByRecursion Is xs → ArePicked Is xs picked
    → picked ≡ xs
picked_whole Is [] picked all p = p
picked_whole Is (x ∷ xs) picked all (later, rest, inl h) =
    h.1 ∙ ap (λ l. x ∷ l) (picked_whole Is xs later all.1 rest)
picked_whole Is (x ∷ xs) picked all (later, rest, inr h) = absurd (h.0 all.0)

pub whole_is : {S : Type 0} (parts : PartsStay) (steps : S → Option (Result Cookie Error) → S → Type 0) (iter : S)
    (rows : List Row) (now : ℤ) (copies cookies : List Cookie) (items : List (Result Cookie Error)) (whole : Store)
    → AreGrouped rows → AreHeldRightly rows → items ≡ map ok_of copies ++ map ok_of cookies
    → ArePicked IsHeldRightly rows (map stored_of copies)
    → AlwaysYields steps (λ x. x) iter items → GivesStore steps iter true now whole
    → whole.rows ≡ put_all (map stored_of cookies) rows
whole_is parts steps iter rows now copies cookies items whole grouped held are picked always (given, drains, is) =
    let both : items ≡ map ok_of (copies ++ cookies) = are ∙ sym (map-append ok_of copies cookies) in
    let drained_so = drained steps iter (map ok_of given) items always drains in
    let same = same_cookies given (copies ++ cookies) (drained_so ∙ both) in
    let own = map stored_of copies in
    let more = map stored_of cookies in
    let stay : put_all own [] ≡ rows =
    parts.stay rows own grouped (picked_part IsHeldRightly rows own picked)
    ∙ picked_whole IsHeldRightly rows own held picked in
    ap (λ (s : Store). s.rows) is
    ∙ (ap (λ cs. put_all (map stored_of cs) []) same
    ∙ (ap (λ rs. put_all rs []) (map-append stored_of copies cookies)
    ∙ (put_all_append own more [] ∙ ap (put_all more) stay)))
