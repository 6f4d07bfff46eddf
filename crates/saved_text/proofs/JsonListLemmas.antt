-- Lists of rows read back.
use Rattle.std.specs.Prelude.{ℕ, List, [], ◌∷◌, ◌++◌, Bool, true, false, Option, Some, None, codes, map, max, nat_le}
use Rattle.std.specs.Prelude.{option_map, option_and_then}
use Rattle.std.proofs.Common.{◌≡◌, ◌≤◌, inl, inr, refl, sym, ap, ◌∙◌, arith, append_assoc, subst}
use Rattle.std.proofs.lemmas.List.{append-nil}
use Rattle.std.proofs.lemmas.Bool.{leb-true, leb-false}
use Rattle.std.proofs.Math.Nat.{max-eq_left, max-eq_right}
use Rattle.json.specs.Token.{Token, begin_object, end_object, begin_array, end_array, key, string, boolean}
use Rattle.json.specs.Json as json
use Rattle.json.specs.Lex.{tokens}
use Rattle.json.specs.Print.{quoted, escape_byte, ArePrintable, IsPrintable}
use Rattle.json.specs.Spaced.{print_spaced, IsGap, AreGaps}
use Rattle.json.specs.Tree.{json_tokens, items_tokens, depth, items_depth}
use Rattle.json.proofs.Printed.Trees.{value-json_tokens}
use Rattle.serde_json.specs.Data.{array, item}
use Rattle.serde_json.specs.Read.{of_json, of_items}
use Rattle.saved_text.specs.Row.{Shown, Domain, host_only, suffix, not_present, empty}
use Rattle.saved_text.specs.Json.{row_value, rows_items, rows_value, bool_text, domain_lines, expires_lines, path_lines}
use Rattle.saved_text.specs.Json.{row_lines, more_lines, list_lines, list_text, ListsReadBack}
use Rattle.saved_text.proofs.JsonLemmas.{row_json, value_is}
use Rattle.saved_text.proofs.FeedLemmas.{feed, AllOurs, IsOurs, tokens_with_feed}

abbrev Pieces : Type 0
Pieces = List (List ℕ × Token)

abbrev at_two : List ℕ
at_two = codes "\n  "

abbrev at_four : List ℕ
at_four = codes "\n    "

abbrev at_six : List ℕ
at_six = codes "\n      "

abbrev one : List ℕ
one = codes " "

abbrev domain_pieces : Domain → Pieces → Pieces
domain_pieces (host_only t) ps = (one, begin_object) ∷ (at_six, key (codes "HostOnly")) ∷ (one, string t) ∷ (
  at_four,
  end_object,
) ∷ ps
domain_pieces (suffix t) ps = (one, begin_object) ∷ (at_six, key (codes "Suffix")) ∷ (one, string t) ∷ (
  at_four,
  end_object,
) ∷ ps
domain_pieces not_present ps = (one, string (codes "NotPresent")) ∷ ps
domain_pieces empty ps = (one, string (codes "Empty")) ∷ ps

abbrev expires_pieces : Option (List ℕ) → Pieces → Pieces
expires_pieces (Some t) ps = (one, begin_object) ∷ (at_six, key (codes "AtUtc")) ∷ (one, string t) ∷ (
  at_four,
  end_object,
) ∷ ps
expires_pieces None ps = (one, string (codes "SessionEnd")) ∷ ps

abbrev row_pieces : Shown → Pieces → Pieces
row_pieces r ps = (at_two, begin_object) ∷ (at_four, key (codes "raw_cookie")) ∷ (one, string r.raw) ∷ (
  at_four,
  key
      (codes "path"),
) ∷ (one, begin_array) ∷ (at_six, string r.path) ∷ (at_six, boolean r.from_attribute) ∷ (
  at_four,
  end_array,
)
    ∷ (at_four, key (codes "domain")) ∷ domain_pieces r.domain ((at_four, key (codes "expires")) ∷ expires_pieces
    r.expires ((at_two, end_object) ∷ ps))

abbrev more_pieces : List Shown → Pieces
more_pieces [] = (codes "\n", end_array) ∷ []
more_pieces (r ∷ rs) = row_pieces r (more_pieces rs)

abbrev list_pieces : List Shown → Pieces
list_pieces [] = ([], begin_array) ∷ ([], end_array) ∷ []
list_pieces (r ∷ rs) = ([], begin_array) ∷ row_pieces r (more_pieces rs)

-- ---- the gaps and tokens are ours

-- all that is asked of pieces
pub record IsGood (ps : Pieces) : Type 0 where
  pub gaps : AreGaps ps
  pub ours : AllOurs ps
  pub printable : ArePrintable (map (λ p. p.1) ps)

is_one : IsGap one
is_one = (inl refl, tt)

is_two : IsGap at_two
is_two = (inr refl, (inl refl, (inl refl, tt)))

is_four : IsGap at_four
is_four = (inr refl, (inl refl, (inl refl, (inl refl, (inl refl, tt)))))

is_six : IsGap at_six
is_six = (inr refl, (inl refl, (inl refl, (inl refl, (inl refl, (inl refl, (inl refl, tt)))))))

good_domain : (d : Domain) (ps : Pieces) → IsGood ps → IsGood (domain_pieces d ps)
unfolding ArePrintable
good_domain (host_only t) ps h = record {
  gaps = (is_one, (is_six, (is_one, (is_four, h.gaps))));
  ours =
      (tt, (tt, (tt, (tt, h.ours))));
  printable = (tt, (tt, (tt, (tt, h.printable))));
}
good_domain (suffix t) ps h = record {
  gaps = (is_one, (is_six, (is_one, (is_four, h.gaps))));
  ours =
      (tt, (tt, (tt, (tt, h.ours))));
  printable = (tt, (tt, (tt, (tt, h.printable))));
}
good_domain not_present ps h = record { gaps = (is_one, h.gaps); ours = (tt, h.ours); printable = (tt, h.printable) }
good_domain empty ps h = record { gaps = (is_one, h.gaps); ours = (tt, h.ours); printable = (tt, h.printable) }

good_expires : (e : Option (List ℕ)) (ps : Pieces) → IsGood ps → IsGood (expires_pieces e ps)
unfolding ArePrintable
good_expires (Some t) ps h = record {
  gaps = (is_one, (is_six, (is_one, (is_four, h.gaps))));
  ours =
      (tt, (tt, (tt, (tt, h.ours))));
  printable = (tt, (tt, (tt, (tt, h.printable))));
}
good_expires None ps h = record { gaps = (is_one, h.gaps); ours = (tt, h.ours); printable = (tt, h.printable) }

good_one : (g : List ℕ) (t : Token) (ps : Pieces) → IsGap g → IsOurs t → IsPrintable t → IsGood ps
    → IsGood ((g, t) ∷ ps)
unfolding ArePrintable
good_one g t ps a b c h = record { gaps = (a, h.gaps); ours = (b, h.ours); printable = (c, h.printable) }

good_row : (r : Shown) (ps : Pieces) → IsGood ps → IsGood (row_pieces r ps)
good_row r ps h =
    good_one at_two begin_object _ is_two tt tt (good_one at_four (key (codes "raw_cookie")) _ is_four tt tt
    (good_one one (string r.raw) _ is_one tt tt (good_one at_four (key (codes "path")) _ is_four tt tt
    (good_one one begin_array _ is_one tt tt (good_one at_six (string r.path) _ is_six tt tt
    (good_one at_six (boolean r.from_attribute) _ is_six tt tt (good_one at_four end_array _ is_four tt tt
    (good_one at_four (key (codes "domain")) _ is_four tt tt
    (good_domain r.domain _ (good_one at_four (key (codes "expires")) _ is_four tt tt (good_expires r.expires _
    (good_one at_two end_object _ is_two tt tt h))))))))))))

good_end : (g : List ℕ) → IsGap g → IsGood ((g, end_array) ∷ [])
unfolding ArePrintable
good_end g a = record { gaps = (a, tt); ours = (tt, tt); printable = (tt, tt) }

good_more : (rs : List Shown) → IsGood (more_pieces rs)
good_more [] = good_end (codes "\n") (inr refl, tt)
good_more (r ∷ rs) = good_row r (more_pieces rs) (good_more rs)

good_list : (rs : List Shown) → IsGood (list_pieces rs)
good_list [] = good_one [] begin_array _ tt tt tt (good_end [] tt)
good_list (r ∷ rs) = good_one [] begin_array _ tt tt tt (good_row r (more_pieces rs) (good_more rs))

-- ---- their tokens

abbrev pub rows_json : List Shown → json.Items
rows_json [] = json.no_items
rows_json (r ∷ rs) = json.item (row_json r) (rows_json rs)

abbrev tokens_of : Pieces → List Token
tokens_of ps = map (λ p. p.1) ps

row_tokens : (raw path : List ℕ) (b : Bool) (d : Domain) (e : Option (List ℕ)) (ps : Pieces)
    → tokens_of (row_pieces (record { raw = raw; path = path; from_attribute = b; domain = d; expires = e })
    ps) ≡ json_tokens (row_json (record {
      raw = raw;
      path = path;
      from_attribute = b;
      domain = d;
      expires =
          e;
    })) ++ tokens_of ps
row_tokens raw path b (host_only t) (Some u) ps = refl
row_tokens raw path b (host_only t) None ps = refl
row_tokens raw path b (suffix t) (Some u) ps = refl
row_tokens raw path b (suffix t) None ps = refl
row_tokens raw path b not_present (Some u) ps = refl
row_tokens raw path b not_present None ps = refl
row_tokens raw path b empty (Some u) ps = refl
row_tokens raw path b empty None ps = refl

more_tokens : (rs : List Shown) → tokens_of (more_pieces rs) ≡ items_tokens (rows_json rs)
more_tokens [] = refl
more_tokens (r ∷ rs) = row_tokens r.raw r.path r.from_attribute r.domain r.expires (more_pieces rs)
    ∙ ap (λ q. json_tokens (row_json r) ++ q) (more_tokens rs)

list_tokens : (rs : List Shown) → tokens_of (list_pieces rs) ≡ json_tokens (json.array (rows_json rs))
list_tokens [] = refl
list_tokens (r ∷ rs) = ap (λ q. begin_array ∷ q) (more_tokens (r ∷ rs))

-- ---- their value

rows_are : (rs : List Shown) → of_items (rows_json rs) ≡ Some (rows_items rs)
rows_are [] = refl
rows_are (r ∷ rs) =
    ap (λ d. option_and_then (λ k. option_map (item k) (of_items (rows_json rs))) d)
    (value_is r.raw r.path r.from_attribute r.domain r.expires)
    ∙ ap (option_map (item (row_value r))) (rows_are rs)

pub list_is : (rs : List Shown) → of_json (json.array (rows_json rs)) ≡ Some (rows_value rs)
list_is rs = ap (option_map array) (rows_are rs)

max_fits : (a b c : ℕ) → a ≤ c → b ≤ c → max a b ≤ c
max_fits a b c h k = by (nat_le a b) refl
  where
    by : (t : Bool) → nat_le a b ≡ t → max a b ≤ c
    by true e = subst (λ q. q ≤ c) (sym (max-eq_right (leb-true a b e))) k
    by false e = let l = leb-false a b e in subst (λ q. q ≤ c) (sym (max-eq_left (omega (arith, l)))) h

row_depth : (raw path : List ℕ) (b : Bool) (d : Domain) (e : Option (List ℕ))
    → depth (row_json (record { raw = raw; path = path; from_attribute = b; domain = d; expires = e })) ≤ 2
row_depth raw path b (host_only t) (Some u) = omega arith
row_depth raw path b (host_only t) None = omega arith
row_depth raw path b (suffix t) (Some u) = omega arith
row_depth raw path b (suffix t) None = omega arith
row_depth raw path b not_present (Some u) = omega arith
row_depth raw path b not_present None = omega arith
row_depth raw path b empty (Some u) = omega arith
row_depth raw path b empty None = omega arith

pub rows_depth : (rs : List Shown) → items_depth (rows_json rs) ≤ 2
rows_depth [] = omega arith
rows_depth (r ∷ rs) = max_fits (depth (row_json r)) (items_depth (rows_json rs)) 2
    (row_depth r.raw r.path r.from_attribute r.domain r.expires) (rows_depth rs)

-- ---- their text

abbrev domain_then : Domain → List ℕ → List ℕ
domain_then (host_only t) rest = codes "{\n      \"HostOnly\": " ++ (quoted t ++ (codes "\n    }" ++ rest))
domain_then (suffix t) rest = codes "{\n      \"Suffix\": " ++ (quoted t ++ (codes "\n    }" ++ rest))
domain_then not_present rest = codes "\"NotPresent\"" ++ rest
domain_then empty rest = codes "\"Empty\"" ++ rest

abbrev expires_then : Option (List ℕ) → List ℕ → List ℕ
expires_then (Some t) rest = codes "{\n      \"AtUtc\": " ++ (quoted t ++ (codes "\n    }" ++ rest))
expires_then None rest = codes "\"SessionEnd\"" ++ rest

abbrev path_then : Shown → List ℕ → List ℕ
path_then r rest = codes
    "[\n      " ++ (quoted r.path ++ (codes ",\n      " ++ (bool_text r.from_attribute ++ (codes "\n    ]" ++ rest))))

abbrev pub row_then : Shown → List ℕ → List ℕ
row_then r rest = codes "  {\n    \"raw_cookie\": " ++ (quoted r.raw ++ (codes ",\n    \"path\": " ++ path_then r
    (codes ",\n    \"domain\": " ++ domain_then r.domain (codes ",\n    \"expires\": " ++ expires_then r.expires
    (codes "\n  }" ++ rest)))))

domain_behind : (d : Domain) (rest : List ℕ) → domain_lines d ++ rest ≡ domain_then d rest
domain_behind (host_only t) rest = ap (λ q. codes "{\n      \"HostOnly\": " ++ q) (append_assoc (quoted t)
    (codes "\n    }") rest)
domain_behind (suffix t) rest = ap (λ q. codes "{\n      \"Suffix\": " ++ q) (append_assoc (quoted t) (codes "\n    }")
    rest)
domain_behind not_present rest = refl
domain_behind empty rest = refl

expires_behind : (e : Option (List ℕ)) (rest : List ℕ) → expires_lines e ++ rest ≡ expires_then e rest
expires_behind (Some t) rest = ap (λ q. codes "{\n      \"AtUtc\": " ++ q) (append_assoc (quoted t) (codes "\n    }")
    rest)
expires_behind None rest = refl

path_behind : (r : Shown) (rest : List ℕ) → path_lines r ++ rest ≡ path_then r rest
path_behind r rest = ap (λ q. codes "[\n      " ++ q) (append_assoc (quoted r.path)
    (codes ",\n      " ++ (bool_text r.from_attribute ++ codes "\n    ]")) rest
    ∙ ap (λ q. quoted r.path ++ (codes ",\n      " ++ q)) (append_assoc (bool_text r.from_attribute) (codes "\n    ]")
    rest))

pub row_behind : (r : Shown) (rest : List ℕ) → row_lines r ++ rest ≡ row_then r rest
row_behind r rest =
    let last : List ℕ = expires_lines r.expires ++ codes "\n  }" in
    let third : List ℕ = domain_lines r.domain ++ (codes ",\n    \"expires\": " ++ last) in
    let second : List ℕ = path_lines r ++ (codes ",\n    \"domain\": " ++ third) in
    let end : last ++ rest ≡ expires_then r.expires (codes "\n  }" ++ rest) = append_assoc (expires_lines r.expires)
    (codes "\n  }") rest ∙ expires_behind r.expires (codes "\n  }" ++ rest) in
    let domain_end : third ++ rest ≡ domain_then r.domain (codes ",\n    \"expires\": " ++ expires_then r.expires
    (codes "\n  }" ++ rest)) =
    append_assoc (domain_lines r.domain) (codes ",\n    \"expires\": " ++ last) rest
    ∙ ap (λ q. domain_lines r.domain ++ (codes ",\n    \"expires\": " ++ q)) end
    ∙ domain_behind r.domain (codes ",\n    \"expires\": " ++ expires_then r.expires (codes "\n  }" ++ rest)) in
    let path_end : second ++ rest ≡ path_then r (codes ",\n    \"domain\": " ++ domain_then r.domain (codes
    ",\n    \"expires\": " ++ expires_then r.expires (codes "\n  }" ++ rest))) =
    append_assoc (path_lines r) (codes ",\n    \"domain\": " ++ third) rest
    ∙ ap (λ q. path_lines r ++ (codes ",\n    \"domain\": " ++ q)) domain_end
    ∙ path_behind r (codes ",\n    \"domain\": " ++ domain_then r.domain (codes
    ",\n    \"expires\": " ++ expires_then r.expires (codes "\n  }" ++ rest))) in
    ap (λ q. codes "  {\n    \"raw_cookie\": " ++ q) (append_assoc (quoted r.raw) (codes ",\n    \"path\": " ++ second)
    rest ∙ ap (λ q. quoted r.raw ++ (codes ",\n    \"path\": " ++ q)) path_end)

print_true_true_date : (raw path u : List ℕ) (d : Domain) (ps : Pieces)
    → print_spaced true (row_pieces (record {
      raw = raw;
      path = path;
      from_attribute = true;
      domain = d;
      expires =
          (Some u);
    }) ps) ≡ 44 ∷ 10 ∷ row_then (record {
      raw = raw;
      path = path;
      from_attribute = true;
      domain = d;
      expires =
          (Some u);
    }) (print_spaced true ps)
unfolding print_spaced escape_byte
print_true_true_date raw path u (host_only t) ps = refl
print_true_true_date raw path u (suffix t) ps = refl
print_true_true_date raw path u not_present ps = refl
print_true_true_date raw path u empty ps = refl

print_true_true_session : (raw path u : List ℕ) (d : Domain) (ps : Pieces)
    → print_spaced true (row_pieces (record {
      raw = raw;
      path = path;
      from_attribute = true;
      domain = d;
      expires =
          None;
    }) ps) ≡ 44 ∷ 10 ∷ row_then (record {
      raw = raw;
      path = path;
      from_attribute = true;
      domain = d;
      expires =
          None;
    }) (print_spaced true ps)
unfolding print_spaced escape_byte
print_true_true_session raw path u (host_only t) ps = refl
print_true_true_session raw path u (suffix t) ps = refl
print_true_true_session raw path u not_present ps = refl
print_true_true_session raw path u empty ps = refl

print_true_false_date : (raw path u : List ℕ) (d : Domain) (ps : Pieces)
    → print_spaced true (row_pieces (record {
      raw = raw;
      path = path;
      from_attribute = false;
      domain = d;
      expires =
          (Some u);
    }) ps) ≡ 44 ∷ 10 ∷ row_then (record {
      raw = raw;
      path = path;
      from_attribute = false;
      domain = d;
      expires =
          (Some u);
    }) (print_spaced true ps)
unfolding print_spaced escape_byte
print_true_false_date raw path u (host_only t) ps = refl
print_true_false_date raw path u (suffix t) ps = refl
print_true_false_date raw path u not_present ps = refl
print_true_false_date raw path u empty ps = refl

print_true_false_session : (raw path u : List ℕ) (d : Domain) (ps : Pieces)
    → print_spaced true (row_pieces (record {
      raw = raw;
      path = path;
      from_attribute = false;
      domain = d;
      expires =
          None;
    }) ps) ≡ 44 ∷ 10 ∷ row_then (record {
      raw = raw;
      path = path;
      from_attribute = false;
      domain = d;
      expires =
          None;
    }) (print_spaced true ps)
unfolding print_spaced escape_byte
print_true_false_session raw path u (host_only t) ps = refl
print_true_false_session raw path u (suffix t) ps = refl
print_true_false_session raw path u not_present ps = refl
print_true_false_session raw path u empty ps = refl

print_false_true_date : (raw path u : List ℕ) (d : Domain) (ps : Pieces)
    → print_spaced false (row_pieces (record {
      raw = raw;
      path = path;
      from_attribute = true;
      domain = d;
      expires =
          (Some u);
    }) ps) ≡ 10 ∷ row_then (record {
      raw = raw;
      path = path;
      from_attribute = true;
      domain = d;
      expires =
          (Some u);
    }) (print_spaced true ps)
unfolding print_spaced escape_byte
print_false_true_date raw path u (host_only t) ps = refl
print_false_true_date raw path u (suffix t) ps = refl
print_false_true_date raw path u not_present ps = refl
print_false_true_date raw path u empty ps = refl

print_false_true_session : (raw path u : List ℕ) (d : Domain) (ps : Pieces)
    → print_spaced false (row_pieces (record {
      raw = raw;
      path = path;
      from_attribute = true;
      domain = d;
      expires =
          None;
    }) ps) ≡ 10 ∷ row_then (record { raw = raw; path = path; from_attribute = true; domain = d; expires = None })
    (print_spaced true ps)
unfolding print_spaced escape_byte
print_false_true_session raw path u (host_only t) ps = refl
print_false_true_session raw path u (suffix t) ps = refl
print_false_true_session raw path u not_present ps = refl
print_false_true_session raw path u empty ps = refl

print_false_false_date : (raw path u : List ℕ) (d : Domain) (ps : Pieces)
    → print_spaced false (row_pieces (record {
      raw = raw;
      path = path;
      from_attribute = false;
      domain = d;
      expires =
          (Some u);
    }) ps) ≡ 10 ∷ row_then (record {
      raw = raw;
      path = path;
      from_attribute = false;
      domain = d;
      expires =
          (Some u);
    }) (print_spaced true ps)
unfolding print_spaced escape_byte
print_false_false_date raw path u (host_only t) ps = refl
print_false_false_date raw path u (suffix t) ps = refl
print_false_false_date raw path u not_present ps = refl
print_false_false_date raw path u empty ps = refl

print_false_false_session : (raw path u : List ℕ) (d : Domain) (ps : Pieces)
    → print_spaced false (row_pieces (record {
      raw = raw;
      path = path;
      from_attribute = false;
      domain = d;
      expires =
          None;
    }) ps) ≡ 10 ∷ row_then (record { raw = raw; path = path; from_attribute = false; domain = d; expires = None })
    (print_spaced true ps)
unfolding print_spaced escape_byte
print_false_false_session raw path u (host_only t) ps = refl
print_false_false_session raw path u (suffix t) ps = refl
print_false_false_session raw path u not_present ps = refl
print_false_false_session raw path u empty ps = refl

print_true : (raw path : List ℕ) (b : Bool) (d : Domain) (e : Option (List ℕ)) (ps : Pieces)
    → print_spaced true (row_pieces (record { raw = raw; path = path; from_attribute = b; domain = d; expires = e })
    ps) ≡ 44 ∷ 10 ∷ row_then (record { raw = raw; path = path; from_attribute = b; domain = d; expires = e })
    (print_spaced true ps)
print_true raw path true d (Some u) ps = print_true_true_date raw path u d ps
print_true raw path true d None ps = print_true_true_session raw path [] d ps
print_true raw path false d (Some u) ps = print_true_false_date raw path u d ps
print_true raw path false d None ps = print_true_false_session raw path [] d ps

print_false : (raw path : List ℕ) (b : Bool) (d : Domain) (e : Option (List ℕ)) (ps : Pieces)
    → print_spaced false (row_pieces (record { raw = raw; path = path; from_attribute = b; domain = d; expires = e })
    ps) ≡ 10 ∷ row_then (record { raw = raw; path = path; from_attribute = b; domain = d; expires = e })
    (print_spaced true ps)
print_false raw path true d (Some u) ps = print_false_true_date raw path u d ps
print_false raw path true d None ps = print_false_true_session raw path [] d ps
print_false raw path false d (Some u) ps = print_false_false_date raw path u d ps
print_false raw path false d None ps = print_false_false_session raw path [] d ps

more_print : (rs : List Shown) → print_spaced true (more_pieces rs) ≡ more_lines rs
unfolding print_spaced
more_print [] = refl
more_print (r ∷ rs) =
    print_true r.raw r.path r.from_attribute r.domain r.expires (more_pieces rs)
    ∙ ap (λ q. 44 ∷ 10 ∷ q) (sym (row_behind r (print_spaced true (more_pieces rs)))
    ∙ ap (λ q. row_lines r ++ q) (more_print rs))

list_print : (rs : List Shown) → print_spaced false (list_pieces rs) ≡ list_lines rs
unfolding print_spaced
list_print [] = refl
list_print (r ∷ rs) =
    ap (λ q. 91 ∷ q) (print_false r.raw r.path r.from_attribute r.domain r.expires (more_pieces rs))
    ∙ ap (λ q. 91 ∷ 10 ∷ q) (sym (row_behind r (print_spaced true (more_pieces rs)))
    ∙ ap (λ q. row_lines r ++ q) (more_print rs))

-- ---- together

pub lists : ListsReadBack
lists rs =
    let good = good_list rs in
    let text : list_text rs ≡ print_spaced false (list_pieces rs) ++ feed = ap (λ q. q ++ feed) (sym (list_print rs)) in
    let ts : tokens (list_text rs) ≡ json_tokens (json.array (rows_json rs)) ++ [] = ap tokens text
    ∙ tokens_with_feed (list_pieces rs) good.gaps good.ours good.printable ∙ list_tokens rs
    ∙ sym (append-nil (json_tokens (json.array (rows_json rs)))) in
    let deep : depth (json.array (rows_json rs)) ≤ 127 = let h = rows_depth rs in omega (arith, h) in
    let v : json.value 127 (json_tokens (json.array (rows_json rs)) ++ []) ≡ Some (json.array (rows_json rs), []) =
    value-json_tokens (json.array (rows_json rs)) 127 [] deep in
    ap (λ k. option_and_then of_json (option_and_then (λ p. json.if_last p.0 p.1) (json.value 127 k))) ts
    ∙ ap (λ k. option_and_then of_json (option_and_then (λ p. json.if_last p.0 p.1) k)) v ∙ list_is rs
