-- The texts of saved rows are bytes.
use Rattle.std.proofs.Common.{◌≡◌, ℕ, ◌<◌, ◌%◌, Bool, true, false, List, [], ◌∷◌, ◌++◌, map, inl, inr}
use Rattle.std.proofs.Common.{refl, subst, arith, cond, ltb, string_bytes, ◌/◌, ◌+◌}
use Rattle.std.proofs.lemmas.Bool.{and_parts, ltb-true}
use Rattle.std.proofs.lemmas.Str.{IsUtf8-string_bytes}
use Rattle.std.specs.List.{AllByRecursion}
use Rattle.std.specs.Str.{IsUtf8}
use lib.Utf8.{scalar, scalars, encode, encodes, scalar_cases}
use Rattle.cookie_text.specs.ReadingBack.{Pairwise}
use Rattle.saved_text.specs.RowWords.{AreBytes, text_in_domain}
use Rattle.saved_text.specs.Saved.{shown, domain_shown as domain_text_shown}
use Rattle.saved_text.specs.declared.row.SavedDomain.{SavedDomain}
use Rattle.saved_text.specs.declared.row.SavedDomain.TheVariants as domain
use Rattle.saved_text.specs.declared.row.SavedRow.{SavedRow}
use Rattle.store_parts.specs.DomainMatch.{Domain, host_only, suffix, not_present, empty, text_or_empty}
use Rattle.cookie_store.specs.Rows.{Row}
use Rattle.cookie_store.specs.SavedLaws.{IsOfBytes}
use Rattle.cookie_store.specs.SavedRows.{IsShownAs, domain_shown}

-- ---- UTF-8

pick : (b : Bool) (xs ys : List ℕ) → (b ≡ true → AreBytes xs) → (b ≡ false → AreBytes ys) → AreBytes (cond b xs ys)
pick true xs ys f g = f refl
pick false xs ys f g = g refl

few : (c : ℕ) → scalar c ≡ true → c < 1114112
few c e = elim (scalar_cases c e) [
  | inl h ↦ omega (arith, h)
  | inr h ↦ h.1
]

encode_bytes : (c : ℕ) → scalar c ≡ true → AreBytes (encode c)
unfolding encode
encode_bytes c e =
    let most = few c e in
    let tail : (n : ℕ) → 128 + n % 64 < 256 = λ n. omega arith in
    pick (ltb c 128) _ _ (λ h. let k = ltb-true c 128 h in (omega (arith, k), tt))
    (λ _. pick (ltb c 2048) _ _ (λ h. let k = ltb-true c 2048 h in (omega (arith, k), (tail c, tt)))
    (λ _. pick (ltb c 65536) _ _ (λ h. let k = ltb-true c 65536 h in (omega (arith, k), (tail (c / 64), (tail c, tt))))
    (λ _. (omega (arith, most), (tail (c / 4096), (tail (c / 64), (tail c, tt)))))))

bytes-append : (xs ys : List ℕ) → AreBytes xs → AreBytes ys → AreBytes (xs ++ ys)
bytes-append [] ys h k = k
bytes-append (x ∷ xs) ys h k = (h.0, bytes-append xs ys h.1 k)

encodes_bytes : (cs : List ℕ) → scalars cs ≡ true → AreBytes (encodes cs)
encodes_bytes [] e = tt
encodes_bytes (c ∷ cs) e =
    let p = and_parts _ _ e in
    bytes-append (encode c) (encodes cs) (encode_bytes c p.0) (encodes_bytes cs p.1)

utf8_bytes : (text : List ℕ) → IsUtf8 text → AreBytes text
utf8_bytes text (cs, (fit, is)) = subst AreBytes is (encodes_bytes cs fit)

-- ---- rows

shown_bytes : (d : SavedDomain) → AreBytes (text_in_domain (domain_text_shown d))
shown_bytes (domain.HostOnly t) = utf8_bytes (string_bytes t) (IsUtf8-string_bytes t)
shown_bytes (domain.Suffix t) = utf8_bytes (string_bytes t) (IsUtf8-string_bytes t)
shown_bytes domain.NotPresent = tt
shown_bytes domain.Empty = tt

domain_bytes : (d : Domain) → AreBytes (text_in_domain (domain_shown d)) → AreBytes (text_or_empty d)
domain_bytes (host_only t) h = h
domain_bytes (suffix t) h = h
domain_bytes not_present h = h
domain_bytes empty h = h

row_bytes : (row : Row) (r : SavedRow) → IsShownAs row (shown r) → IsOfBytes row
row_bytes row r h = record {
  raw = subst AreBytes h.raw (utf8_bytes (string_bytes r.raw_cookie) (IsUtf8-string_bytes r.raw_cookie));
  path = subst AreBytes h.path (utf8_bytes (string_bytes r.path) (IsUtf8-string_bytes r.path));
  domain = domain_bytes row.domain (subst (λ d. AreBytes (text_in_domain d)) h.domain (shown_bytes r.domain));
}

-- rows that saved rows show are of bytes
pub rows_bytes : (rows : List Row) (rs : List SavedRow) → Pairwise IsShownAs rows (map shown rs)
    → AllByRecursion IsOfBytes rows
rows_bytes [] [] h = tt
rows_bytes [] (r ∷ rs) h = absurd h
rows_bytes (row ∷ rows) [] h = absurd h
rows_bytes (row ∷ rows) (r ∷ rs) h = (row_bytes row r h.0, rows_bytes rows rs h.1)
