-- Rows of which no two have one key.
use Rattle.std.proofs.Common.{◌≡◌, ℤ, Bool, true, false, cond, not, ◌&&◌, ◌||◌, List, [], ◌∷◌, map, filter, refl, sym}
use Rattle.std.proofs.Common.{ap, ◌∙◌, true≢false}
use Rattle.std.specs.Prelude.{Option, Some, None, MatchOption, is_some, option_and_then, if◌then◌else◌}
use Rattle.std.specs.List.{find, list_any}
use Rattle.std.specs.Str.{bytes_eq}
use Rattle.std.proofs.lemmas.Bool.{cond-true, cond-false, or_parts, or_from, and_left, and_parts}
use Rattle.std.proofs.lemmas.Option.{none-some, same_Some}
use Rattle.cookie_store.specs.Rows.{Row, Key, HaveOwnKeys, key_of, has_key, has_key_of, has_place, has_domain}
use Rattle.cookie_store.specs.Rows.{behind_last}
use Rattle.cookie_store.specs.Rows.{put_in_place, found, found_live, is_live, is_live_at, is_live_of, expired, ended}
use Rattle.cookie_store.specs.Rows.{put, has_place_of}
use Rattle.cookie_store.proofs.PlaceLaws.{has_own_key}
use Rattle.cookie_store.proofs.PlaceLemmas.{find-none, none_stricter, put_in_place-none}
use Rattle.cookie_store.proofs.TextLemmas.{same_text}

-- whose key it is
pub key_is : (key : Key) (r : Row) → has_key key r ≡ true → key ≡ key_of r
key_is key r is =
    let own = and_parts (has_place key r) (bytes_eq key.name r.raw.cookie.name) is in
    let above = and_parts (has_domain key r) (bytes_eq key.path r.path.text) own.0 in
    λ i. record {
      domain = same_text key.domain (key_of r).domain above.0 i;
      path = same_text key.path (key_of r).path above.1 i;
      name = same_text key.name (key_of r).name own.1 i;
    }

pub none_behind : (key : Key) (r : Row) (rows : List Row) → has_key key r ≡ true
    → list_any (has_key_of r) rows ≡ false → list_any (has_key key) rows ≡ false
none_behind key r rows is none = ap (λ k. list_any (has_key k) rows) (key_is key r is) ∙ none

-- the row of the key, where it passes a test as well
abbrev pub if_passes : (Row → Bool) → Row → Option Row
if_passes q r = if q r then Some r else None

pub find_among : (key : Key) (q : Row → Bool) (rows : List Row) → HaveOwnKeys rows
    → find (λ r. has_key key r && q r) rows ≡ option_and_then (if_passes q) (found key rows)
find_among key q [] apart = refl
find_among key q (r ∷ rows) apart = by (has_key key r) refl (find_among key q rows apart.1)
  where
    by : (b : Bool) → has_key key r ≡ b
        → find (λ x. has_key key x && q x) rows ≡ option_and_then (if_passes q) (found key rows)
        → cond (b && q r) (Some r) (find (λ x. has_key key x && q x) rows)
        ≡ option_and_then (if_passes q) (cond b (Some r) (found key rows))
    by true is rest =
        ap (cond (q r) (Some r)) (find-none (λ x. has_key key x && q x) rows
        (none_stricter (has_key key) (λ x. has_key key x && q x) (λ x n. and_left (has_key key x) (q x) n)
        rows (none_behind key r rows is apart.0)))
    by false is rest = rest

-- what there is of a row that was looked up, where it isn't dead
pub live_is : (now : ℤ) (key : Key) (rows : List Row) → HaveOwnKeys rows → (o : Option Row) → o ≡ found key rows
    → option_and_then (if_passes (is_live now)) o ≡ found_live now key rows
live_is now key rows apart o is =
    ap (option_and_then (if_passes (is_live now))) is ∙ sym (find_among key (is_live now) rows apart)

-- the key of the row that was looked up
pub found_key : (key : Key) (rows : List Row) (row : Row) → found key rows ≡ Some row → key_of row ≡ key
found_key key [] row at = absurd (none-some row at)
found_key key (r ∷ rows) row at = by (has_key key r) refl at (λ h. found_key key rows row h)
  where
    by : (b : Bool) → has_key key r ≡ b → cond b (Some r) (found key rows) ≡ Some row
        → (found key rows ≡ Some row → key_of row ≡ key) → key_of row ≡ key
    by true is h rest = ap key_of (sym (same_Some r row h)) ∙ sym (key_is key r is)
    by false is h rest = rest h

pub any_is_found : {A : Type 0} (test : A → Bool) (xs : List A) → list_any test xs ≡ is_some (find test xs)
any_is_found test [] = refl
any_is_found test (x ∷ xs) = by (test x) (any_is_found test xs)
  where
    by : (b : Bool) → list_any test xs ≡ is_some (find test xs)
        → (b || list_any test xs) ≡ is_some (cond b (Some x) (find test xs))
    by true rest = refl
    by false rest = rest

-- a test that no element passes changes none
pub map-none : {A : Type 0} (test : A → Bool) (f : A → A) (ys : List A) → list_any test ys ≡ false
    → map (λ y. if test y then f y else y) ys ≡ ys
map-none test f [] none = refl
map-none test f (y ∷ ys) none =
    let p = or_parts (test y) (list_any test ys) none in
    λ i. cond-false (test y) (f y) y p.0 i ∷ map-none test f ys p.1 i

-- the live row of a key is expired in its place
pub ended_is : (now : ℤ) (key : Key) (old : Row) (rows : List Row) → HaveOwnKeys rows
    → found key rows ≡ Some old → is_live now old ≡ true
    → put_in_place (has_key key) (expired old) rows
    ≡ map (λ r. if is_live_at now key r then expired r else r) rows
ended_is now key old [] apart at live = refl
ended_is now key old (r ∷ rows) apart at live =
    by (has_key key r) refl at (λ h. ended_is now key old rows apart.1 h live)
  where
    by : (b : Bool) → has_key key r ≡ b → cond b (Some r) (found key rows) ≡ Some old
        → (found key rows ≡ Some old → put_in_place (has_key key) (expired old) rows
        ≡ map (λ x. if is_live_at now key x then expired x else x) rows)
        → cond b (expired old) r ∷ put_in_place (has_key key) (expired old) rows
        ≡ cond (b && is_live now r) (expired r) r ∷ map (λ x. if is_live_at now key x then expired x else x) rows
    by true is h rest =
        let same = same_Some r old h in
        let none = none_behind key r rows is apart.0 in
        let head : expired old ≡ cond (is_live now r) (expired r) r =
        ap expired (sym same) ∙ sym (cond-true (is_live now r) (expired r) r (ap (is_live now) same ∙ live)) in
        let first = put_in_place-none (has_key key) (expired old) rows none in
        let second = map-none (is_live_at now key) expired rows
        (none_stricter (has_key key) (is_live_at now key) (λ x n. and_left (has_key key x) (is_live now x) n)
        rows none) in
        λ i. head i ∷ (first ∙ sym second) i
    by false is h rest = ap (λ l. r ∷ l) (rest h)

is_there : {A : Type 0} (o : Option A) (x : A) → o ≡ Some x → is_some o ≡ true
is_there o x is = ap is_some is

lives : (now : ℤ) (row : Row) → is_some (if_passes (is_live now) row) ≡ true → is_live now row ≡ true
lives now row is = by (is_live now row) is
  where
    by : (b : Bool) → is_some (cond b (Some row) None) ≡ true → b ≡ true
    by true e = refl
    by false e = absurd (true≢false (sym e))

-- what expiring the row of a key leaves, where that is live
pub expired_is_ended : (now : ℤ) (row : Row) (rows new : List Row) → HaveOwnKeys rows
    → list_any (is_live_of now row) rows ≡ true
    → MatchOption (found (key_of row) rows) (new ≡ rows) (λ old. new ≡ put (expired old) rows)
    → new ≡ ended now row rows
expired_is_ended now row rows new apart any how = by (found (key_of row) rows) refl how
  where
    live : is_some (option_and_then (if_passes (is_live now)) (found (key_of row) rows)) ≡ true
    live = ap is_some (live_is now (key_of row) rows apart (found (key_of row) rows) refl)
        ∙ sym (any_is_found (is_live_of now row) rows) ∙ any

    by : (o : Option Row) → found (key_of row) rows ≡ o
        → MatchOption o (new ≡ rows) (λ old. new ≡ put (expired old) rows) → new ≡ ended now row rows
    by None at same =
        absurd (true≢false (sym live ∙ ap (λ o. is_some (option_and_then (if_passes (is_live now)) o)) at))
    by (Some old) at is =
        let own = found_key (key_of row) rows old at in
        let there : list_any (has_key_of (expired old)) rows ≡ true =
        any_is_found (has_key_of (expired old)) rows ∙ ap (λ k. is_some (found k rows)) own ∙ is_there _ old at in
        is ∙ cond-true (list_any (has_key_of (expired old)) rows) _ _ there
        ∙ ap (λ k. put_in_place (has_key k) (expired old) rows) own
        ∙ ended_is now (key_of row) old rows apart at
        (lives now old (sym (ap (λ o. is_some (option_and_then (if_passes (is_live now)) o)) at) ∙ live))

-- whether a row that was looked up passes a test
abbrev pub passes : (Row → Bool) → Option Row → Bool
passes q None = false
passes q (Some r) = q r

or_nothing : (b : Bool) → (b || false) ≡ b
or_nothing true = refl
or_nothing false = refl

-- a row of the key that isn't dead and passes a test
pub any_among : (now : ℤ) (key : Key) (q : Row → Bool) (rows : List Row) → HaveOwnKeys rows
    → list_any (λ r. is_live_at now key r && q r) rows ≡ passes q (found_live now key rows)
any_among now key q [] apart = refl
any_among now key q (r ∷ rows) apart = by (has_key key r) refl (any_among now key q rows apart.1)
  where
    by : (b : Bool) → has_key key r ≡ b
        → list_any (λ x. is_live_at now key x && q x) rows ≡ passes q (found_live now key rows)
        → (((b && is_live now r) && q r) || list_any (λ x. is_live_at now key x && q x) rows)
        ≡ passes q (cond (b && is_live now r) (Some r) (found_live now key rows))
    by true is rest = within (is_live now r)
      where
        none : list_any (has_key key) rows ≡ false
        none = none_behind key r rows is apart.0

        none_live : list_any (is_live_at now key) rows ≡ false
        none_live = none_stricter (has_key key) (is_live_at now key)
            (λ x n. and_left (has_key key x) (is_live now x) n) rows none

        no_more : list_any (λ x. is_live_at now key x && q x) rows ≡ false
        no_more = none_stricter (is_live_at now key) (λ x. is_live_at now key x && q x)
            (λ x n. and_left (is_live_at now key x) (q x) n) rows none_live

        within : (b : Bool) → ((b && q r) || list_any (λ x. is_live_at now key x && q x) rows)
            ≡ passes q (cond b (Some r) (found_live now key rows))
        within true = ap (λ m. q r || m) no_more ∙ or_nothing (q r)
        within false = no_more ∙ sym (ap (passes q) (find-none (is_live_at now key) rows none_live))
    by false is rest = rest

-- ---- keys stay apart

-- whether the second is the first, by its texts
abbrev keyed : Key → Key → Bool
keyed k l = (bytes_eq k.domain l.domain && bytes_eq k.path l.path) && bytes_eq k.name l.name

any_map : (k l : Key) → k ≡ l → (f : Row → Row) → ((r : Row) → key_of (f r) ≡ key_of r) → (rows : List Row)
    → list_any (has_key k) (map f rows) ≡ list_any (has_key l) rows
any_map k l same f keeps [] = refl
any_map k l same f keeps (r ∷ rows) =
    λ i. keyed (same i) (keeps r i) || any_map k l same f keeps rows i

apart_map : (f : Row → Row) → ((r : Row) → key_of (f r) ≡ key_of r) → (rows : List Row)
    → HaveOwnKeys rows → HaveOwnKeys (map f rows)
apart_map f keeps [] apart = tt
apart_map f keeps (r ∷ rows) apart =
    (any_map (key_of (f r)) (key_of r) (keeps r) f keeps rows ∙ apart.0, apart_map f keeps rows apart.1)

pub ended_apart : (now : ℤ) (row : Row) (rows : List Row) → HaveOwnKeys rows → HaveOwnKeys (ended now row rows)
ended_apart now row rows apart = apart_map _ (λ r. by r (is_live_at now (key_of row) r)) rows apart
  where
    by : (r : Row) (b : Bool) → key_of (cond b (expired r) r) ≡ key_of r
    by r true = refl
    by r false = refl

replaced_apart : (row : Row) (rows : List Row) → HaveOwnKeys rows
    → HaveOwnKeys (put_in_place (has_key_of row) row rows)
replaced_apart row rows apart = apart_map _ (λ r. by r (has_key_of row r) refl) rows apart
  where
    by : (r : Row) (b : Bool) → has_key_of row r ≡ b → key_of (cond b row r) ≡ key_of r
    by r true is = key_is (key_of row) r is
    by r false is = refl

other_way : (row r : Row) → has_key_of row r ≡ false → has_key_of r row ≡ false
other_way row r differs = by (has_key_of r row) refl
  where
    by : (b : Bool) → has_key_of r row ≡ b → has_key_of r row ≡ false
    by true is =
        absurd (true≢false (sym (ap (λ k. has_key k r) (sym (key_is (key_of r) row is)) ∙ has_own_key r)
        ∙ differs))
    by false is = is

none_with : {A : Type 0} (p test : A → Bool) (x : A) → p x ≡ false → (ys : List A)
    → list_any p ys ≡ false → list_any p (behind_last test x ys) ≡ false
none_with p test x fails [] none = or_from (p x) false fails refl
none_with p test x fails (y ∷ ys) none =
    let q = or_parts (p y) (list_any p ys) none in
    by (test y && not (list_any test ys)) q.0 q.1 (none_with p test x fails ys q.1)
  where
    by : (b : Bool) → p y ≡ false → list_any p ys ≡ false → list_any p (behind_last test x ys) ≡ false
        → list_any p (cond b (y ∷ x ∷ ys) (y ∷ behind_last test x ys)) ≡ false
    by true first later rest = or_from (p y) _ first (or_from (p x) _ fails later)
    by false first later rest = or_from (p y) _ first rest

behind_apart : (test : Row → Bool) (row : Row) (rows : List Row) → list_any (has_key_of row) rows ≡ false
    → HaveOwnKeys rows → HaveOwnKeys (behind_last test row rows)
behind_apart test row [] none apart = (refl, tt)
behind_apart test row (r ∷ rows) none apart =
    let q = or_parts (has_key_of row r) (list_any (has_key_of row) rows) none in
    by (test r && not (list_any test rows)) q (behind_apart test row rows q.1 apart.1)
  where
    by : (b : Bool) → (has_key_of row r ≡ false) × (list_any (has_key_of row) rows ≡ false)
        → HaveOwnKeys (behind_last test row rows)
        → HaveOwnKeys (cond b (r ∷ row ∷ rows) (r ∷ behind_last test row rows))
    by true q rest =
        (or_from (has_key_of r row) _ (other_way row r q.0) apart.0, (q.1, apart.1))
    by false q rest =
        (none_with (has_key_of r) test row (other_way row r q.0) rows apart.0, rest)

pub put_apart : (row : Row) (rows : List Row) → HaveOwnKeys rows → HaveOwnKeys (put row rows)
put_apart row rows apart = by (list_any (has_key_of row) rows) refl (list_any (has_place_of row) rows)
  where
    by : (k : Bool) → list_any (has_key_of row) rows ≡ k → (p : Bool)
        → HaveOwnKeys (cond k (put_in_place (has_key_of row) row rows)
        (cond p (behind_last (has_place_of row) row rows) (behind_last (has_domain (key_of row)) row rows)))
    by true any p = replaced_apart row rows apart
    by false none true = behind_apart (has_place_of row) row rows none apart
    by false none false = behind_apart (has_domain (key_of row)) row rows none apart

none_kept : {A : Type 0} (p t : A → Bool) (ys : List A) → list_any p ys ≡ false → list_any p (filter t ys) ≡ false
none_kept p t [] none = refl
none_kept p t (y ∷ ys) none = by (t y) (none_kept p t ys q.1)
  where
    q : (p y ≡ false) × (list_any p ys ≡ false)
    q = or_parts (p y) (list_any p ys) none

    by : (b : Bool) → list_any p (filter t ys) ≡ false
        → list_any p (cond b (y ∷ filter t ys) (filter t ys)) ≡ false
    by true rest = or_from (p y) _ q.0 rest
    by false rest = rest

pub filter_apart : (t : Row → Bool) (rows : List Row) → HaveOwnKeys rows → HaveOwnKeys (filter t rows)
filter_apart t [] apart = tt
filter_apart t (r ∷ rows) apart = by (t r) (filter_apart t rows apart.1)
  where
    by : (b : Bool) → HaveOwnKeys (filter t rows) → HaveOwnKeys (cond b (r ∷ filter t rows) (filter t rows))
    by true rest = (none_kept (has_key_of r) t rows apart.0, rest)
    by false rest = rest
