-- Rows in JSON read back.
use Rattle.std.specs.Prelude.{ℕ, List, [], ◌++◌, Bool, true, false, Option, Some, None, codes, option_and_then}
use Rattle.std.proofs.Common.{◌≡◌, ◌≤◌, rules, refl, sym, ap, ◌∙◌, arith, append_assoc}
use Rattle.std.proofs.lemmas.List.{append-nil}
use Rattle.json.specs.Json as json
use Rattle.json.specs.Lex.{tokens}
use Rattle.json.specs.Print.{quoted, print, print_from, escape_byte}
use Rattle.json.specs.Tree.{json_tokens, HasNumbers, depth}
use Rattle.serde_json.specs.Data.{Data}
use Rattle.json.proofs.Printed.Tokens.{tokens-print}
use Rattle.json.proofs.Printed.Trees.{value-json_tokens, ArePrintable-json_tokens}
use Rattle.serde_json.specs.Read.{read, of_json}
use Rattle.saved_text.specs.Row.{Shown, Domain, host_only, suffix, not_present, empty}
use Rattle.saved_text.specs.Json.{ReadsBack, row_value, row_text, domain_json, expires_text, bool_text}

abbrev pub domain_tree : Domain → json.Json
domain_tree (host_only t) = json.object (json.member (codes "HostOnly") (json.string t) json.no_members)
domain_tree (suffix t) = json.object (json.member (codes "Suffix") (json.string t) json.no_members)
domain_tree not_present = json.string (codes "NotPresent")
domain_tree empty = json.string (codes "Empty")

abbrev pub expires_tree : Option (List ℕ) → json.Json
expires_tree (Some t) = json.object (json.member (codes "AtUtc") (json.string t) json.no_members)
expires_tree None = json.string (codes "SessionEnd")

-- in the order in which a row is written
abbrev pub row_json : Shown → json.Json
row_json r = json.object (json.member (codes "raw_cookie") (json.string r.raw) (json.member (codes "path")
    (json.array (json.item (json.string r.path) (json.item (json.boolean r.from_attribute) json.no_items)))
    (json.member (codes "domain") (domain_tree r.domain) (json.member (codes "expires") (expires_tree r.expires)
    json.no_members))))

-- the texts of parts, with what comes behind
abbrev domain_then : Domain → List ℕ → List ℕ
domain_then (host_only t) rest = codes "{\"HostOnly\":" ++ (quoted t ++ (codes "}" ++ rest))
domain_then (suffix t) rest = codes "{\"Suffix\":" ++ (quoted t ++ (codes "}" ++ rest))
domain_then not_present rest = codes "\"NotPresent\"" ++ rest
domain_then empty rest = codes "\"Empty\"" ++ rest

abbrev expires_then : Option (List ℕ) → List ℕ → List ℕ
expires_then (Some t) rest = codes "{\"AtUtc\":" ++ (quoted t ++ (codes "}" ++ rest))
expires_then None rest = codes "\"SessionEnd\"" ++ rest

domain_behind : (d : Domain) (rest : List ℕ) → domain_json d ++ rest ≡ domain_then d rest
domain_behind (host_only t) rest = ap (λ q. codes "{\"HostOnly\":" ++ q) (append_assoc (quoted t) (codes "}") rest)
domain_behind (suffix t) rest = ap (λ q. codes "{\"Suffix\":" ++ q) (append_assoc (quoted t) (codes "}") rest)
domain_behind not_present rest = refl
domain_behind empty rest = refl

expires_behind : (e : Option (List ℕ)) (rest : List ℕ) → expires_text e ++ rest ≡ expires_then e rest
expires_behind (Some t) rest = ap (λ q. codes "{\"AtUtc\":" ++ q) (append_assoc (quoted t) (codes "}") rest)
expires_behind None rest = refl

abbrev row_then : Shown → List ℕ
row_then r = codes "{\"raw_cookie\":" ++ (quoted
    r.raw ++ (codes ",\"path\":[" ++ (quoted
    r.path ++ (codes "," ++ (bool_text r.from_attribute ++ (codes "],\"domain\":" ++ domain_then r.domain (codes
    ",\"expires\":" ++ expires_then r.expires (codes "}"))))))))

row_regrouped : (r : Shown) → row_text r ≡ row_then r
row_regrouped r = ap (λ q. codes "{\"raw_cookie\":" ++ (quoted
    r.raw ++ (codes ",\"path\":[" ++ (quoted
    r.path ++ (codes "," ++ (bool_text r.from_attribute ++ (codes "],\"domain\":" ++ q)))))))
    (ap (λ q. domain_json r.domain ++ (codes ",\"expires\":" ++ q)) (expires_behind r.expires (codes "}"))
    ∙ domain_behind r.domain (codes ",\"expires\":" ++ expires_then r.expires (codes "}")))

text_true_date : (raw path u : List ℕ) (d : Domain)
    → row_then (record { raw = raw; path = path; from_attribute = true; domain = d; expires = (Some u) }) ≡ print
    (json_tokens (row_json (record { raw = raw; path = path; from_attribute = true; domain = d; expires = (Some u) })))
unfolding print_from escape_byte
text_true_date raw path u (host_only t) = refl
text_true_date raw path u (suffix t) = refl
text_true_date raw path u not_present = refl
text_true_date raw path u empty = refl

text_true_session : (raw path u : List ℕ) (d : Domain)
    → row_then (record { raw = raw; path = path; from_attribute = true; domain = d; expires = None }) ≡ print
    (json_tokens (row_json (record { raw = raw; path = path; from_attribute = true; domain = d; expires = None })))
unfolding print_from escape_byte
text_true_session raw path u (host_only t) = refl
text_true_session raw path u (suffix t) = refl
text_true_session raw path u not_present = refl
text_true_session raw path u empty = refl

text_false_date : (raw path u : List ℕ) (d : Domain)
    → row_then (record { raw = raw; path = path; from_attribute = false; domain = d; expires = (Some u) }) ≡ print
    (json_tokens (row_json (record { raw = raw; path = path; from_attribute = false; domain = d; expires = (Some u) })))
unfolding print_from escape_byte
text_false_date raw path u (host_only t) = refl
text_false_date raw path u (suffix t) = refl
text_false_date raw path u not_present = refl
text_false_date raw path u empty = refl

text_false_session : (raw path u : List ℕ) (d : Domain)
    → row_then (record { raw = raw; path = path; from_attribute = false; domain = d; expires = None }) ≡ print
    (json_tokens (row_json (record { raw = raw; path = path; from_attribute = false; domain = d; expires = None })))
unfolding print_from escape_byte
text_false_session raw path u (host_only t) = refl
text_false_session raw path u (suffix t) = refl
text_false_session raw path u not_present = refl
text_false_session raw path u empty = refl

text_then : (raw path : List ℕ) (b : Bool) (d : Domain) (e : Option (List ℕ))
    → row_then (record { raw = raw; path = path; from_attribute = b; domain = d; expires = e }) ≡ print
    (json_tokens (row_json (record { raw = raw; path = path; from_attribute = b; domain = d; expires = e })))
text_then raw path true d (Some u) = text_true_date raw path u d
text_then raw path true d None = text_true_session raw path [] d
text_then raw path false d (Some u) = text_false_date raw path u d
text_then raw path false d None = text_false_session raw path [] d

pub text_is : (raw path : List ℕ) (b : Bool) (d : Domain) (e : Option (List ℕ))
    → row_text (record { raw = raw; path = path; from_attribute = b; domain = d; expires = e }) ≡ print
    (json_tokens (row_json (record { raw = raw; path = path; from_attribute = b; domain = d; expires = e })))
text_is raw path b d e = row_regrouped (record { raw = raw; path = path; from_attribute = b; domain = d; expires = e })
    ∙ text_then raw path b d e

pub value_is : (raw path : List ℕ) (b : Bool) (d : Domain) (e : Option (List ℕ))
    → of_json (row_json (record { raw = raw; path = path; from_attribute = b; domain = d; expires = e })) ≡ Some
    (row_value (record { raw = raw; path = path; from_attribute = b; domain = d; expires = e }))
value_is raw path b (host_only t) (Some u) = refl
value_is raw path b (host_only t) None = refl
value_is raw path b (suffix t) (Some u) = refl
value_is raw path b (suffix t) None = refl
value_is raw path b not_present (Some u) = refl
value_is raw path b not_present None = refl
value_is raw path b empty (Some u) = refl
value_is raw path b empty None = refl

has_numbers : (raw path : List ℕ) (b : Bool) (d : Domain) (e : Option (List ℕ))
    → HasNumbers (row_json (record { raw = raw; path = path; from_attribute = b; domain = d; expires = e }))
has_numbers raw path b (host_only t) (Some u) = search rules
has_numbers raw path b (host_only t) None = search rules
has_numbers raw path b (suffix t) (Some u) = search rules
has_numbers raw path b (suffix t) None = search rules
has_numbers raw path b not_present (Some u) = search rules
has_numbers raw path b not_present None = search rules
has_numbers raw path b empty (Some u) = search rules
has_numbers raw path b empty None = search rules

-- the depth of a row
pub depth_is : (raw path : List ℕ) (b : Bool) (d : Domain) (e : Option (List ℕ))
    → depth (row_json (record { raw = raw; path = path; from_attribute = b; domain = d; expires = e })) ≤ 127
depth_is raw path b (host_only t) (Some u) = omega arith
depth_is raw path b (host_only t) None = omega arith
depth_is raw path b (suffix t) (Some u) = omega arith
depth_is raw path b (suffix t) None = omega arith
depth_is raw path b not_present (Some u) = omega arith
depth_is raw path b not_present None = omega arith
depth_is raw path b empty (Some u) = omega arith
depth_is raw path b empty None = omega arith

-- a text that is printed of a JSON value is read as what the value stands for
pub read_printed : (j : json.Json) (d : Data) → HasNumbers j → depth j ≤ 127 → of_json j ≡ Some d
    → read (print (json_tokens j)) ≡ Some d
read_printed j d n deep e =
    let ts : tokens (print (json_tokens j)) ≡ json_tokens j ++ [] =
    tokens-print (json_tokens j) (ArePrintable-json_tokens j n) ∙ sym (append-nil (json_tokens j)) in
    let v : json.value 127 (json_tokens j ++ []) ≡ Some (j, []) = value-json_tokens j 127 [] deep in
    ap (λ k. option_and_then of_json (option_and_then (λ p. json.if_last p.0 p.1) (json.value 127 k))) ts
    ∙ ap (λ k. option_and_then of_json (option_and_then (λ p. json.if_last p.0 p.1) k)) v ∙ e

pub back : (raw path : List ℕ) (b : Bool) (d : Domain) (e : Option (List ℕ))
    → read (row_text (record { raw = raw; path = path; from_attribute = b; domain = d; expires = e })) ≡ Some
    (row_value (record { raw = raw; path = path; from_attribute = b; domain = d; expires = e }))
back raw path b d e = ap read (text_is raw path b d e)
    ∙ read_printed (row_json (record { raw = raw; path = path; from_attribute = b; domain = d; expires = e }))
    (row_value (record { raw = raw; path = path; from_attribute = b; domain = d; expires = e }))
    (has_numbers raw path b d e) (depth_is raw path b d e) (value_is raw path b d e)

pub reads : ReadsBack
reads r = back r.raw r.path r.from_attribute r.domain r.expires
