-- Rows as they are written are of the grammar.
use Rattle.std.specs.Prelude.{flat_map, Bool, true, false, Option, Some, None, codes}
use Rattle.std.specs.Prelude.{map}
use Rattle.std.proofs.Common.{
  arith,
  length,
  ◌≡◌,
  ℕ,
  ◌++◌,
  List,
  [],
  ◌∷◌,
  refl,
  sym,
  ap,
  ◌∙◌,
  inl,
  inr,
  append_assoc,
  subst,
}
use Rattle.std.proofs.lemmas.List.{append-nil}
use Rattle.std.specs.List.{AllByRecursion}
use Rattle.std.proofs.lemmas.List.Sorted.{IsPermutation-refl}
use Rattle.saved_text.specs.Saved.{shown}
use Rattle.saved_text.specs.declared.row.SavedRow.{SavedRow}
use Rattle.saved_text.specs.Row.{Shown, Domain, host_only, suffix, not_present, empty}
use Rattle.saved_text.specs.Letters.{AreSpaces}
use Rattle.saved_text.specs.Grammar.{Grammar, Word, IsOf}
use Rattle.saved_text.specs.Grammar.Grammar.{space, sign, many}
use Rattle.saved_text.specs.Grammar.Word.{the_name}
use Rattle.saved_text.specs.Ron.{
  name,
  string,
  comma,
  optional,
  bracketed,
  field,
  bool,
  domain,
  expires,
  raw_field,
  path_field,
  domain_field,
  expires_field,
  two,
  three,
  four,
  row,
  list,
  ron,
  ◌▹◌,
  ◌·◌,
}
use Rattle.saved_text.specs.Words.{string_words, domain_words}
use Rattle.saved_text.specs.Written.{quoted}
use Rattle.saved_text.specs.RonLayout.{bool_layout, domain_layout, expires_layout, row_layout, rows_layout, ron_layout}
use Rattle.saved_text.specs.RowWords.{
  bool_words,
  expires_words,
  field_words,
  SaysRows,
  AreBytes,
  text_in_domain,
  text_of_date,
  IsRowOfBytes,
  WrittenIsOfGrammar,
}
use Rattle.saved_text.proofs.WrittenLemmas.{strings}

-- ---- parts of a text

-- with white space between
then_of : (g h : Grammar) (x p y : List ℕ) (s t : List Word) → IsOf g x s → AreSpaces p → IsOf h y t
    → IsOf (g ▹ h) (x ++ (p ++ y)) (s ++ t)
then_of g h x p y s t a b c = (x, p ++ y, s, t, a, (p, y, [], t, (b, refl), c, refl, refl), refl, refl)

name_is : (n : List ℕ) → IsOf (name n) n (the_name n ∷ [])
name_is n = (n, [], [], the_name n ∷ [], (refl, refl), (refl, refl), sym (append-nil n), refl)

field_is : (n : List ℕ) (g : Grammar) (x : List ℕ) (s : List Word) → IsOf g x s
    → IsOf (field n g) (n ++ (codes ": " ++ x)) (the_name n ∷ s)
field_is n g x s a = then_of (name n) (sign (codes ":") ▹ g) n [] (codes ": " ++ x) (the_name n ∷ []) s (name_is n) tt
    (then_of (sign (codes ":")) g (codes ":") (codes " ") x [] s (refl, refl) (refl, tt) a)

-- an optional comma that isn't there, and the bracket
bare_end : IsOf (optional (comma · space) · sign (codes ")")) (codes ")") []
bare_end = ([], codes ")", [], [], inr (refl, refl), (refl, refl), refl, refl)

bracket_is : (g : Grammar) (x : List ℕ) (s : List Word) → IsOf g x s
    → IsOf (bracketed g) (codes "(" ++ (x ++ codes ")")) s
bracket_is g x s a = subst (IsOf (bracketed g) (codes "(" ++ (x ++ codes ")"))) (append-nil s)
    (then_of (sign (codes "(")) (g ▹ optional (comma · space) · sign (codes ")")) (codes "(") [] (x ++ codes ")") []
    (s ++ []) (refl, refl) tt (then_of g (optional (comma · space) · sign (codes ")")) x [] (codes ")") s [] a tt
    bare_end))

tagged_is : (n t : List ℕ) → AreBytes t → IsOf (name n ▹ bracketed string)
    (n ++ (codes "(" ++ (quoted t ++ codes ")"))) (the_name n ∷ string_words t)
tagged_is n t b = then_of (name n) (bracketed string) n [] (codes "(" ++ (quoted t ++ codes ")")) (the_name n ∷ [])
    (string_words t) (name_is n) tt (bracket_is string (quoted t) (string_words t) (strings t b))

bool_is : (b : Bool) → IsOf bool (bool_layout b) (bool_words b)
bool_is true = inl (name_is (codes "true"))
bool_is false = inr (name_is (codes "false"))

path_is : (t : List ℕ) (b : Bool) → AreBytes t → IsOf (bracketed (string ▹ comma ▹ bool))
    (codes "(" ++ ((quoted t ++ (codes ", " ++ bool_layout b)) ++ codes ")")) (string_words t ++ bool_words b)
path_is t b a = bracket_is (string ▹ comma ▹ bool) (quoted t ++ (codes ", " ++ bool_layout b))
    (string_words t ++ bool_words b)
    (then_of string (comma ▹ bool) (quoted t) [] (codes ", " ++ bool_layout b) (string_words t) (bool_words b)
    (strings t a) tt (then_of comma bool (codes ",") (codes " ") (bool_layout b) [] (bool_words b) (refl, refl)
    (refl, tt) (bool_is b)))

domain_is : (d : Domain) → AreBytes (text_in_domain d) → IsOf domain (domain_layout d) (domain_words d)
domain_is (host_only t) a = inl (tagged_is (codes "HostOnly") t a)
domain_is (suffix t) a = inr (inl (tagged_is (codes "Suffix") t a))
domain_is not_present a = inr (inr (inl (name_is (codes "NotPresent"))))
domain_is empty a = inr (inr (inr (name_is (codes "Empty"))))

expires_is : (e : Option (List ℕ)) → AreBytes (text_of_date e) → IsOf expires (expires_layout e) (expires_words e)
expires_is (Some t) a = inl (tagged_is (codes "AtUtc") t a)
expires_is None a = inr (name_is (codes "SessionEnd"))

-- ---- a row

-- the line feed and the blanks before a field, and before the bracket of a row
abbrev before_field : List ℕ
before_field = codes "\n        "

abbrev before_end : List ℕ
before_end = codes "\n    "

field_spaces : AreSpaces before_field
field_spaces = (refl, (refl, (refl, (refl, (refl, (refl, (refl, (refl, (refl, tt)))))))))

end_spaces : AreSpaces before_end
end_spaces = (refl, (refl, (refl, (refl, (refl, tt)))))

-- a field, a comma, and what follows
comma_is : (g h : Grammar) (x y : List ℕ) (s t : List Word) → IsOf g x s → IsOf h y t
    → IsOf (g ▹ comma ▹ h) (x ++ (codes "," ++ (before_field ++ y))) (s ++ t)
comma_is g h x y s t a b = then_of g (comma ▹ h) x [] (codes "," ++ (before_field ++ y)) s t a tt
    (then_of comma h (codes ",") before_field y [] t (refl, refl) field_spaces b)

last_end : IsOf (optional (comma · space) · sign (codes ")")) (codes ",\n    )") []
last_end = (
  codes ",\n    ",
  codes ")",
  [],
  [],
  inl
      (codes ",", before_end, [], [], (refl, refl), (end_spaces, refl), refl, refl),
  (refl, refl),
  refl,
  refl,
)

-- a row without the blanks before it and the comma behind it
abbrev raw_part : Shown → List ℕ
raw_part r = codes "raw_cookie" ++ (codes ": " ++ quoted r.raw)

abbrev path_part : Shown → List ℕ
path_part r = codes "path" ++ (codes ": " ++
    (codes "(" ++ ((quoted r.path ++ (codes ", " ++ bool_layout r.from_attribute)) ++ codes ")")))

abbrev domain_part : Shown → List ℕ
domain_part r = codes "domain" ++ (codes ": " ++ domain_layout r.domain)

abbrev expires_part : Shown → List ℕ
expires_part r = codes "expires" ++ (codes ": " ++ expires_layout r.expires)

abbrev fields_text : Shown → List ℕ
fields_text r = raw_part r ++ (codes "," ++
    (before_field ++ (path_part r ++
    (codes "," ++ (before_field ++ (domain_part r ++ (codes "," ++ (before_field ++ expires_part r))))))))

abbrev row_core : Shown → List ℕ
row_core r = codes "(" ++ (before_field ++ (fields_text r ++ codes ",\n    )"))

abbrev said_of : Shown → List Word
said_of r = flat_map (λ f. f) (field_words r)

abbrev words_raw : Shown → List Word
words_raw r = the_name (codes "raw_cookie") ∷ string_words r.raw

abbrev words_path : Shown → List Word
words_path r = the_name (codes "path") ∷ (string_words r.path ++ bool_words r.from_attribute)

abbrev words_domain : Shown → List Word
words_domain r = the_name (codes "domain") ∷ domain_words r.domain

abbrev words_expires : Shown → List Word
words_expires r = the_name (codes "expires") ∷ expires_words r.expires

fields_are : (r : Shown) → IsRowOfBytes r → IsOf (four raw_field path_field domain_field expires_field)
    (fields_text r) (words_raw r ++ (words_path r ++ (words_domain r ++ words_expires r)))
fields_are r a =
    let last : IsOf (two domain_field expires_field)
    (domain_part r ++ (codes "," ++ (before_field ++ expires_part r))) (words_domain r ++ words_expires r) =
    inl (comma_is domain_field expires_field (domain_part r) (expires_part r) (words_domain r) (words_expires r)
    (field_is (codes "domain") domain (domain_layout r.domain) (domain_words r.domain)
    (domain_is r.domain a.domain)) (field_is (codes "expires") expires (expires_layout r.expires)
    (expires_words r.expires) (expires_is r.expires a.date))) in
    let path : IsOf path_field (path_part r) (words_path r) =
    field_is (codes "path") (bracketed (string ▹ comma ▹ bool))
    (codes "(" ++ ((quoted r.path ++ (codes ", " ++ bool_layout r.from_attribute)) ++ codes ")"))
    (string_words r.path ++ bool_words r.from_attribute) (path_is r.path r.from_attribute a.path) in
    let raw : IsOf raw_field (raw_part r) (words_raw r) =
    field_is (codes "raw_cookie") string (quoted r.raw) (string_words r.raw) (strings r.raw a.raw) in
    inl (comma_is raw_field (three path_field domain_field expires_field) (raw_part r)
    (path_part r ++ (codes "," ++ (before_field ++
    (domain_part r ++ (codes "," ++ (before_field ++ expires_part r)))))) (words_raw r)
    (words_path r ++ (words_domain r ++ words_expires r)) raw
    (inl (comma_is path_field (two domain_field expires_field) (path_part r)
    (domain_part r ++ (codes "," ++ (before_field ++ expires_part r))) (words_path r)
    (words_domain r ++ words_expires r) path last)))

said_is : (a b c d : List Word) → (a ++ (b ++ (c ++ d))) ++ [] ≡ a ++ (b ++ (c ++ (d ++ [])))
said_is a b c d = append-nil (a ++ (b ++ (c ++ d))) ∙ ap (λ q. a ++ (b ++ (c ++ q))) (sym (append-nil d))

row_is : (r : Shown) → IsRowOfBytes r → IsOf row (row_core r) (said_of r)
row_is r a =
    let fields : Grammar = four raw_field path_field domain_field expires_field in
    let said : List Word = words_raw r ++ (words_path r ++ (words_domain r ++ words_expires r)) in
    subst (IsOf row (row_core r)) (said_is (words_raw r) (words_path r) (words_domain r) (words_expires r))
    (then_of (sign (codes "(")) (fields ▹ optional (comma · space) · sign (codes ")")) (codes "(") before_field
    (fields_text r ++ codes ",\n    )") [] (said ++ []) (refl, refl) field_spaces
    (then_of fields (optional (comma · space) · sign (codes ")")) (fields_text r) [] (codes ",\n    )") said []
    (fields_are r a) tt last_end))

-- ---- rows

row_regrouped : (r : Shown) (z : List ℕ) → row_layout r ++ z ≡ codes "    " ++ (row_core r ++ (codes ",\n" ++ z))
row_regrouped r z = simp append_assoc

abbrev rest_of : List Shown → List ℕ
rest_of [] = codes ",\n"
rest_of (r ∷ rs) = codes ",\n    " ++ (row_core r ++ rest_of rs)

rows_regrouped : (r : Shown) (rs : List Shown) → rows_layout (r ∷ rs) ≡ codes "    " ++ (row_core r ++ rest_of rs)
rows_regrouped r [] = row_regrouped r []
rows_regrouped r (q ∷ rs) = row_regrouped r (rows_layout (q ∷ rs))
    ∙ ap (λ z. codes "    " ++ (row_core r ++ (codes ",\n" ++ z))) (rows_regrouped q rs)

abbrev one_more : Grammar
one_more = comma ▹ row · space

abbrev parts_of : List Shown → List (List ℕ × List Word)
parts_of [] = []
parts_of (r ∷ rs) = (codes ",\n    " ++ row_core r, said_of r) ∷ parts_of rs

part_is : (r : Shown) → IsRowOfBytes r → IsOf one_more (codes ",\n    " ++ row_core r) (said_of r)
part_is r a = then_of comma (row · space) (codes ",") before_end (row_core r) [] (said_of r) (refl, refl) end_spaces
    (row_core r, [], said_of r, [], row_is r a, (tt, refl), sym (append-nil (row_core r)), sym (append-nil (said_of r)))

parts_are : (rs : List Shown) → AllByRecursion IsRowOfBytes rs
    → AllByRecursion (λ p. IsOf one_more p.0 p.1) (parts_of rs)
parts_are [] a = tt
parts_are (r ∷ rs) a = (part_is r a.0, parts_are rs a.1)

rest_is : (rs : List Shown) → rest_of rs ≡ flat_map (λ p. p.0) (parts_of rs) ++ codes ",\n"
rest_is [] = refl
rest_is (r ∷ rs) = ap (λ q. codes ",\n    " ++ (row_core r ++ q)) (rest_is rs)
    ∙ sym (append_assoc (codes ",\n    " ++ row_core r) (flat_map (λ p. p.0) (parts_of rs)) (codes ",\n")
    ∙ append_assoc (codes ",\n    ") (row_core r) (flat_map (λ p. p.0) (parts_of rs) ++ codes ",\n"))

abbrev said_rest : List Shown → List Word
said_rest rs = flat_map (λ p. p.1) (parts_of rs)

abbrev items : Grammar
items = row ▹ many one_more · optional (comma · space)

items_are : (r : Shown) (rs : List Shown) → IsRowOfBytes r → AllByRecursion IsRowOfBytes rs
    → IsOf items (row_core r ++ rest_of rs) (said_of r ++ said_rest rs)
items_are r rs a b =
    then_of row (many one_more · optional (comma · space)) (row_core r) [] (rest_of rs) (said_of r) (said_rest rs)
    (row_is r a) tt (
      flat_map (λ p. p.0) (parts_of rs),
      codes ",\n",
      said_rest rs,
      [],
      (parts_of rs, parts_are rs b, refl, refl),
      inl (codes ",", codes "\n", [], [], (refl, refl), ((refl, tt), refl), refl, refl),
      rest_is rs,
      sym (append-nil (said_rest rs)),
    )

abbrev list_core : Shown → List Shown → List ℕ
list_core r rs = codes "[" ++ (before_end ++ ((row_core r ++ rest_of rs) ++ codes "]"))

list_is : (r : Shown) (rs : List Shown) → IsRowOfBytes r → AllByRecursion IsRowOfBytes rs
    → IsOf list (list_core r rs) (said_of r ++ said_rest rs)
list_is r rs a b =
    let said : List Word = said_of r ++ said_rest rs in
    then_of (sign (codes "[")) (optional items · sign (codes "]")) (codes "[") before_end
    ((row_core r ++ rest_of rs) ++ codes "]") [] said (refl, refl) end_spaces
    (row_core r ++ rest_of rs, codes "]", said, [], inl (items_are r rs a b), (refl, refl), refl, sym (append-nil said))

ron_of : (x : List ℕ) (said : List Word) → IsOf list x said → IsOf ron (x ++ codes "\n") said
ron_of x said a = (
  [],
  x ++ codes "\n",
  [],
  said,
  (tt, refl),
  (x, codes "\n", said, [], a, ((refl, tt), refl), refl, sym (append-nil said)),
  refl,
  refl,
)

layout_is : (r : Shown) (rs : List Shown) → list_core r rs ++ codes "\n" ≡ ron_layout (r ∷ rs)
layout_is r rs = regroup (row_core r ++ rest_of rs)
    ∙ ap (λ q. codes "[\n" ++ (q ++ codes "]\n")) (sym (rows_regrouped r rs))
  where
    regroup : (q : List ℕ) → codes "[" ++ (before_end ++ (q ++ codes "]")) ++ codes "\n" ≡ codes "[\n" ++
        ((codes "    " ++ q) ++ codes "]\n")
    regroup q = ap (λ x. codes "[\n    " ++ x) (append_assoc q (codes "]") (codes "\n"))

says_rest : (rs : List Shown) → SaysRows rs (said_rest rs)
says_rest [] = refl
says_rest (r ∷ rs) = (
  said_of r,
  said_rest rs,
  (field_words r, IsPermutation-refl (field_words r), refl),
  says_rest rs,
  refl,
)

no_rows : IsOf list (codes "[]") []
no_rows = then_of (sign (codes "[")) (optional items · sign (codes "]")) (codes "[") [] (codes "]") [] [] (refl, refl)
    tt ([], codes "]", [], [], inr (refl, refl), (refl, refl), refl, refl)

pub written : WrittenIsOfGrammar
written [] a = ([], ron_of (codes "[]") [] no_rows, refl)
written (r ∷ rs) a =
    let said : List Word = said_of r ++ said_rest rs in (
      said,
      subst (λ t. IsOf ron t said) (layout_is r rs) (ron_of (list_core r rs) said (list_is r rs a.0 a.1)),
      (said_of r, said_rest rs, (field_words r, IsPermutation-refl (field_words r), refl), says_rest rs, refl),
    )

-- ---- the two layouts of a list

pub none_layout : (rs : List SavedRow) → length rs ≡ 0 → ron_layout (map shown rs) ≡ codes "[]\n"
none_layout [] e = refl
none_layout (r ∷ rs) e = absurd (omega (arith, e))
