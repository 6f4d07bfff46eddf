-- The rows that lines hold, and the rows of lines.
use Rattle.std.proofs.Common.{◌≡◌, ◌≢◌, ◌<◌, ◌≤◌, ℕ, ℤ, pos, negsuc, Bool, true, false, cond, List, [], ◌∷◌}
use Rattle.std.proofs.Common.{length, get_or, map, Option, Some, None, refl, sym, subst, ◌∙◌, arith}
use Rattle.std.specs.Prelude.{◌==◌, ◌||◌, not, is_none, if◌then◌else◌}
use Rattle.std.specs.Char.{is_ascii_whitespace}
use Rattle.std.specs.List.{AllByRecursion}
use Rattle.std.specs.Option.{option_or}
use Rattle.std.proofs.lemmas.Bool.Decides.{nat_tests}
use Rattle.std.proofs.lemmas.Simd.{map-map}
use Rattle.cookie_text.specs.ReadingBack.{Pairwise}
use Rattle.store_parts.specs.DomainMatch.{Domain, host_only, suffix, not_present, empty, text_or_empty}
use Rattle.store_parts.specs.Expiry.{whole_second}
use Rattle.cookie_store.specs.Rows.{Row}
use Rattle.cookies_txt.specs.Layout.{cookies_txt, kept_for, text_for}
use Rattle.cookies_txt.specs.Reading.{GivesRows, SaysLines}
use Rattle.cookies_txt.specs.Writing.{IsRowOf, IsThroughCookiesTxt, begins_with_slash, clamped, domain_fault}
use Rattle.cookies_txt.specs.Writing.{ends_in_return, expiry_second, has_separator, held, is_suffix, latest_second}
use Rattle.cookies_txt.specs.Writing.{line_of_row, row_fault, text_fault}
use Rattle.cookies_txt.specs.declared.error.RowFault.{RowFault}
use Rattle.cookies_txt.specs.declared.error.RowFault.TheVariants.{HostSign}
use Rattle.cookies_txt.specs.declared.readers.Reader.{Reader}
use Rattle.cookies_txt.specs.declared.readers.Reader.TheVariants.{Curl}
use Rattle.cookies_txt.proofs.LineLemmas.{IsHostSign, IsWhole, written_says}

-- ---- a row that a line holds

if_none : (b : Bool) (fault : RowFault) (rest : Option RowFault) → (if b then Some fault else rest) ≡ None
    → (b ≡ false) × (rest ≡ None)
if_none true fault rest h = cc
if_none false fault rest h = (refl, h)

or_none : (a b : Option RowFault) → option_or a b ≡ None → (a ≡ None) × (b ≡ None)
or_none None b h = (refl, h)
or_none (Some fault) b h = cc

or_false : (a b : Bool) → (a || b) ≡ false → (a ≡ false) × (b ≡ false)
or_false true b h = cc
or_false false b h = (refl, h)

not_false : (b : Bool) → not b ≡ false → b ≡ true
not_false true h = refl
not_false false h = cc

-- a domain that a line holds
domain_whole : (d : Domain) → domain_fault d ≡ None → (0 < length (text_or_empty d))
    × (is_suffix d ≡ false → IsHostSign (get_or (text_or_empty d) 0 0))
domain_whole (host_only []) h = cc
domain_whole (host_only (b ∷ bs)) h =
    let sign = if_none ((b == 35 || b == 46) || is_ascii_whitespace b) HostSign None h in
    let white = or_false (b == 35 || b == 46) (is_ascii_whitespace b) sign.0 in
    let both = or_false (b == 35) (b == 46) white.0 in (
      omega arith,
      λ e. record { no_comment = other_35 b both.0; no_dot = other_46 b both.1; no_white = white.1 },
    )
  where
    other_35 : (b : ℕ) → (b == 35) ≡ false → b ≢ 35
    other_35 b h = grind (arith, nat_tests)

    other_46 : (b : ℕ) → (b == 46) ≡ false → b ≢ 46
    other_46 b h = grind (arith, nat_tests)
domain_whole (suffix []) h = cc
domain_whole (suffix (b ∷ bs)) h = (omega arith, λ e. cc)
domain_whole not_present h = cc
domain_whole empty h = cc

pub record AreWhole (domain path name value : List ℕ) : Type 0 where
  pub path_slash : begins_with_slash path ≡ true
  pub name_some : 0 < length name
  pub domain_clean : has_separator domain ≡ false
  pub path_clean : has_separator path ≡ false
  pub name_clean : has_separator name ≡ false
  pub value_clean : has_separator value ≡ false
  pub last : ends_in_return value ≡ false

texts_whole : (domain path name value : List ℕ) → text_fault domain path name value ≡ None
    → AreWhole domain path name value
texts_whole domain path name value h =
    let slash = if_none (not (begins_with_slash path)) _ _ h in
    let some = if_none (length name == 0) _ _ slash.1 in
    let separated = ((has_separator domain || has_separator path) || has_separator name) || has_separator value in
    let clean = if_none separated _ _ some.1 in
    let last = if_none (ends_in_return value) _ _ clean.1 in
    let three = or_false ((has_separator domain || has_separator path) || has_separator name) (has_separator value)
    clean.0 in
    let two = or_false (has_separator domain || has_separator path) (has_separator name) three.0 in
    let one = or_false (has_separator domain) (has_separator path) two.0 in
    record {
      path_slash = not_false _ slash.0;
      name_some = grind (arith, nat_tests, some.0);
      domain_clean = one.0;
      path_clean = one.1;
      name_clean = two.1;
      value_clean = three.1;
      last = last.0;
    }

clamped_small : (z : ℤ) → clamped z ≤ latest_second
clamped_small (pos n) = omega arith
clamped_small (negsuc n) = omega arith

expiry_small : (death : Option ℤ) → expiry_second death ≤ latest_second
expiry_small None = omega arith
expiry_small (Some death) = clamped_small (whole_second death)

row_whole : (row : Row) → row_fault row ≡ None → IsWhole (line_of_row row)
unfolding row_fault
row_whole row h =
    let both = or_none (domain_fault row.domain) _ h in
    let domain = domain_whole row.domain both.0 in
    let texts = texts_whole (text_or_empty row.domain) row.path.text row.raw.cookie.name row.raw.cookie.value both.1 in
    record {
      domain = domain.0;
      sign = domain.1;
      path = texts.path_slash;
      name = texts.name_some;
      domain_clean = texts.domain_clean;
      path_clean = texts.path_clean;
      name_clean = texts.name_clean;
      value_clean = texts.value_clean;
      last = texts.last;
      expires = expiry_small row.death;
    }

-- ---- rows

held_whole : (rows : List Row) → AllByRecursion IsWhole (map line_of_row (held rows))
held_whole [] = tt
held_whole (row ∷ rows) = by (row_fault row) refl (held_whole rows)
  where
    by : (o : Option RowFault) → row_fault row ≡ o → AllByRecursion IsWhole (map line_of_row (held rows))
        → AllByRecursion IsWhole (map line_of_row (cond (is_none o) (row ∷ held rows) (held rows)))
    by None e rest = (row_whole row e, rest)
    by (Some fault) e rest = rest

-- the text of rows says those that lines hold
pub rows_said_for : (r : Reader) (rows : List Row)
    → SaysLines (text_for r (map line_of_row (held rows))) (map (λ row. kept_for r (line_of_row row)) (held rows))
rows_said_for r rows =
    subst (SaysLines (text_for r (map line_of_row (held rows)))) (map-map (kept_for r) line_of_row (held rows))
    (written_says r (map line_of_row (held rows)) (held_whole rows))

pub rows_said : (rows : List Row) → SaysLines (cookies_txt (map line_of_row (held rows))) (map line_of_row (held rows))
rows_said rows = rows_said_for Curl rows

pub lines_paired : (rows back : List Row) → Pairwise IsRowOf (map line_of_row rows) back
    → Pairwise IsThroughCookiesTxt rows back
lines_paired [] [] h = tt
lines_paired [] (b ∷ bs) h = h
lines_paired (row ∷ rows) [] h = h
lines_paired (row ∷ rows) (b ∷ bs) h = (h.0, lines_paired rows bs h.1)

-- they come back
pub rows_back : (rows back : List Row) → GivesRows (cookies_txt (map line_of_row (held rows))) back
    → Pairwise IsThroughCookiesTxt (held rows) back
rows_back rows back (all, says, pairs) =
    let same : all ≡ map line_of_row (held rows) = says.says ∙ sym (rows_said rows).says in
    lines_paired (held rows) back (subst (λ ls. Pairwise IsRowOf ls back) same pairs)
