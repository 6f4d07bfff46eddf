-- What a session reads of a header under the name of a Secure row.
use Rattle.std.proofs.Common.{◌≡◌, ◌==◌, ◌&&◌, ◌++◌, ◌∙◌, ℕ, List, [], ◌∷◌, Bool, true, false, cond, length, map}
use Rattle.std.proofs.Common.{Option, Some, None, sym, refl, ap, subst, arith, IsTrue, inl, inr}
use Rattle.std.specs.Prelude.{filter, IfSome}
use Rattle.std.specs.List.{AllByRecursion, cons_option, filter_map, list_any, position_or_len}
use Rattle.std.specs.Str.{is_utf8}
use Rattle.std.proofs.lemmas.Bool.Decides.{nat_tests}
use Rattle.std.proofs.lemmas.List.Elements.{All-from_recursion, recursion_from_All}
use Rattle.std.proofs.lemmas.List.Sorted.{All-permutation}
use Rattle.std.proofs.lemmas.Option.{same_Some}
use Rattle.percent_encoding.specs.Percent.{percent_decode}
use Rattle.cookie_text.specs.Again.{Lacks}
use Rattle.cookie_text.specs.Pieces.{equals, name_of, value_of}
use Rattle.cookie_text.specs.Record.{Record, bare}
use Rattle.cookie_text.proofs.PrintedPieces.{value_cut}
use Rattle.cookie_store.specs.Given.{pair_of}
use Rattle.cookie_store.specs.Rows.{Row}
use Rattle.cookie_client.specs.Header.{pair_text}
use Rattle.cookie_client.specs.Keeping.{HasReadPair}
use Rattle.cookie_client.proofs.HeaderBack.{IsRead, cookie_named, header_back, if_shown, texts_of}
use Rattle.cookie_client.proofs.HeaderCookies.{cookie_by, cookies_by, pair_in}
use Rattle.cookie_client.proofs.ReadBack.{led, led_pair}
use Rattle.cookie_client.proofs.ReadCode.{cookies_are}
use Rattle.user_agent.specs.SecureRuns.{IsAny, SecureNamesAreReadSecurely, WasReadSecurely}
use Rattle.user_agent.specs.SecureWins.{decoded_name, is_secure_of, winners, wins}
use Rattle.user_agent.proofs.SecureRunLemmas.{have_read_pairs, picked_all, secure_names_are_set_securely}

-- ---- the cookie of a pair

pub lacks_led : (spaced : Bool) (n : List ℕ) → Lacks equals n → Lacks equals (led spaced n)
lacks_led false n h = h
lacks_led true n h = ((λ e. omega (arith, e)), h)

pub first_equals : (n v : List ℕ) → Lacks equals n → position_or_len (λ b. b == equals) (n ++ equals ∷ v) ≡ length n
first_equals [] v h = refl
first_equals (b ∷ n) v h =
    let other : (b == equals) ≡ false = grind (arith, nat_tests, h.0) in
    rw (other, first_equals n v h.1) (omega arith)

pair_value : (spaced : Bool) (p : List ℕ × List ℕ) → IsRead p → value_of (led spaced (pair_text p)) ≡ Some p.1
pair_value spaced p h =
    ap value_of (led_pair spaced p.0 p.1)
    ∙ value_cut (led spaced p.0) p.1 p.1 (first_equals (led spaced p.0) p.1 (lacks_led spaced p.0 h.name_uncut))
    h.value_trimmed

decoded_valued : (a b : Bool) (n v : List ℕ) → IfSome (cond (a && b) (Some (bare n v)) None) (λ c. c.value ≡ v)
decoded_valued true true n v = refl
decoded_valued true false n v = tt
decoded_valued false b n v = tt

pair_valued : (n : List ℕ) (value : Option (List ℕ)) (v : List ℕ) → value ≡ Some v
    → IfSome (pair_in n value) (λ c. c.value ≡ percent_decode v)
pair_valued n None v e = tt
pair_valued [] (Some w) v e = tt
pair_valued (b ∷ bs) (Some w) v e =
    subst (λ x. IfSome (pair_in (b ∷ bs) (Some w)) (λ c. c.value ≡ percent_decode x)) (same_Some w v e)
    (decoded_valued (is_utf8 (percent_decode (b ∷ bs))) (is_utf8 (percent_decode w)) _ _)

if_text : (b : Bool) (o : Option Record) (P : Record → Type 0) → IfSome o P → IfSome (cond b o None) P
if_text true o P h = h
if_text false o P h = tt

cookie_valued : (b spaced : Bool) (p : List ℕ × List ℕ) → IsRead p
    → IfSome (cookie_by b (led spaced (pair_text p))) (λ c. c.value ≡ percent_decode p.1)
cookie_valued b spaced p h =
    if_text (is_utf8 (led spaced (pair_text p))) _ (λ c. c.value ≡ percent_decode p.1)
    (if_shown b (led spaced (pair_text p)) _ (λ c. c.value ≡ percent_decode p.1)
    (pair_valued (name_of (led spaced (pair_text p))) (value_of (led spaced (pair_text p))) p.1
    (pair_value spaced p h)))

-- ---- the cookies of a header

module _ (P : Record → Type 0) where
  with_option : (o : Option Record) (cs : List Record) → IfSome o P → AllByRecursion P cs
      → AllByRecursion P (cons_option o cs)
  with_option None cs h all = all
  with_option (Some c) cs h all = (h, all)

  of_named : (o : Option Record) (n v : List ℕ) → IfSome o (λ c. c.name ≡ n) → IfSome o (λ c. c.value ≡ v)
      → ((c : Record) → c.name ≡ n → c.value ≡ v → P c) → IfSome o P
  of_named None n v named valued each = tt
  of_named (Some c) n v named valued each = each c named valued

  -- what holds of a cookie of each row's decoded pair holds of all of them
  pub of_rows : (b spaced : Bool) (rows : List Row) → AllByRecursion HasReadPair rows
      → AllByRecursion (λ row. (c : Record) → c.name ≡ decoded_name row
      → c.value ≡ percent_decode row.raw.cookie.value → P c) rows
      → AllByRecursion P (filter_map (cookie_by b) (texts_of spaced (map pair_of rows)))
  of_rows b spaced [] read each = tt
  of_rows b spaced (row ∷ rows) read each =
      with_option (cookie_by b (led spaced (pair_text (pair_of row)))) _
      (of_named (cookie_by b (led spaced (pair_text (pair_of row)))) (decoded_name row)
      (percent_decode row.raw.cookie.value) (cookie_named b spaced (pair_of row) read.0)
      (cookie_valued b spaced (pair_of row) read.0) each.0)
      (of_rows b true rows read.1 each.1)

pub read_pairs : (rows : List Row) → AllByRecursion HasReadPair rows → AllByRecursion IsRead (map pair_of rows)
read_pairs [] h = tt
read_pairs (row ∷ rows) h = (h.0, read_pairs rows h.1)

pub some_left : (test : Row → Bool) (P : Row → Type 0) (rows : List Row) → AllByRecursion P rows
    → AllByRecursion P (filter test rows)
some_left test P [] h = tt
some_left test P (row ∷ rows) h = by (test row) (some_left test P rows h.1)
  where
    by : (b : Bool) → AllByRecursion P (filter test rows)
        → AllByRecursion P (cond b (row ∷ filter test rows) (filter test rows))
    by true later = (h.0, later)
    by false later = later

pub each_of : (M A B : Row → Type 0) → ((row : Row) → M row → A row → B row) → (rows : List Row) → AllByRecursion M rows
    → AllByRecursion A rows → AllByRecursion B rows
each_of M A B f [] m h = tt
each_of M A B f (row ∷ rows) m h = (f row m.0 h.0, each_of M A B f rows m.1 h.1)

-- each of those that are left of a list is one of the list
are_members : (test : Row → Bool) (all rows : List Row) → ((row : Row) → IsAny (λ other. row ≡ other) rows
    → IsAny (λ other. row ≡ other) all) → AllByRecursion (λ row. IsAny (λ other. row ≡ other) all) (filter test rows)
are_members test all [] within = tt
are_members test all (row ∷ rows) within =
    by (test row) (are_members test all rows (λ other any. within other (inr any)))
  where
    by : (b : Bool) → AllByRecursion (λ row. IsAny (λ other. row ≡ other) all) (filter test rows)
        → AllByRecursion (λ row. IsAny (λ other. row ≡ other) all) (cond b (row ∷ filter test rows) (filter test rows))
    by true later = (within row (inl refl), later)
    by false later = later

pub secure_names_are_read_securely : SecureNamesAreReadSecurely
secure_names_are_read_securely rules list steps rows from_http on takes to now header is b cookies of =
    let (given, are, printed, won) =
    secure_names_are_set_securely rules list steps rows from_http on takes to now header is in
    let read = have_read_pairs rules list steps rows from_http on takes in
    let picked = picked_all HasReadPair _ rows are.0 read are.1 in
    let longest = recursion_from_All HasReadPair given
    (All-permutation HasReadPair are.0 given are.2.permutation (All-from_recursion HasReadPair are.0 picked)) in
    let left = some_left (wins given) HasReadPair given longest in
    let P : Record → Type 0 =
    λ c. IsTrue (list_any (is_secure_of c.name) given) → WasReadSecurely rules steps given c in
    let members = are_members (wins given) given given (λ row any. any) in
    let each = each_of (λ row. IsAny (λ other. row ≡ other) given) _ (λ row. (c : Record) → c.name ≡ decoded_name row
    → c.value ≡ percent_decode row.raw.cookie.value → P c)
    (λ row member w c named valued there. record {
      row = row;
      given_row = member;
      was = w (subst (λ n. IsTrue (list_any (is_secure_of n) given)) named there);
      named = named;
      valued = valued;
    })
    (winners given) members won in (
      given,
      are,
      subst (AllByRecursion P)
          (sym (cookies_are b header cookies of ∙ (ap (cookies_by b) printed
          ∙ header_back b (map pair_of (winners given)) (read_pairs (winners given) left))))
          (of_rows P b false (winners given) left each),
    )
