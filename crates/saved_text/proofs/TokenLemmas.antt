-- What is read of a text by its tokens.
use Rattle.std.specs.Prelude.{ℕ, List, [], ◌∷◌, ◌++◌, Bool, Option, Some, None, Result, Ok, Err, IfOk, IfSome}
use Rattle.std.specs.Prelude.{unwrap_or, option_and_then}
use Rattle.std.proofs.Common.{◌≡◌, ◌≤◌, ◌<◌, ◌+◌, refl, sym, ap, ◌∙◌, arith, length, length-append, zero-lt-suc}
use Rattle.std.proofs.Common.{is_some, true≢false}
use Rattle.json.specs.Json.{after_end_array}
use Rattle.std.proofs.lemmas.List.{append-nil}
use Rattle.json.specs.Json as json
use Rattle.json.specs.Lex.{tokens}
use Rattle.json.specs.Token.{Token, begin_array, end_array}
use Rattle.json.specs.Tree.{json_tokens, items_tokens, depth}
use Rattle.json.proofs.Printed.Trees.{value-json_tokens}
use Rattle.serde_json.specs.Data.{Data}
use Rattle.serde_json.specs.Read.{read, of_json}
use Rattle.saved_text.specs.Row.{Shown, Domain, host_only, suffix, not_present, empty}
use Rattle.saved_text.specs.Json.{row_value, rows_value}
use Rattle.saved_text.specs.JsonReading.{AreShown}
use Rattle.saved_text.specs.JsonTokens.{tokens_of_row, tokens_of_rows}
use Rattle.saved_text.specs.Saved.{IsShown}
use Rattle.saved_text.specs.declared.error.SavedTextError.{SavedTextError}
use Rattle.saved_text.specs.declared.row.SavedRow.{SavedRow}
use Rattle.saved_text.proofs.JsonLemmas.{row_json, value_is, depth_is}
use Rattle.saved_text.proofs.JsonListLemmas.{rows_json, rows_depth, list_is}
use Rattle.saved_text.proofs.JsonReadLemmas.{shown_more}

-- ---- the tokens of rows are those of their trees

row_tree : (raw path : List ℕ) (b : Bool) (d : Domain) (e : Option (List ℕ))
    → tokens_of_row (record { raw = raw; path = path; from_attribute = b; domain = d; expires = e })
    ≡ json_tokens (row_json (record { raw = raw; path = path; from_attribute = b; domain = d; expires = e }))
row_tree raw path b (host_only t) (Some u) = refl
row_tree raw path b (host_only t) None = refl
row_tree raw path b (suffix t) (Some u) = refl
row_tree raw path b (suffix t) None = refl
row_tree raw path b not_present (Some u) = refl
row_tree raw path b not_present None = refl
row_tree raw path b empty (Some u) = refl
row_tree raw path b empty None = refl

rows_tree : (rs : List Shown) → tokens_of_rows rs (end_array ∷ []) ≡ items_tokens (rows_json rs)
rows_tree [] = refl
rows_tree (r ∷ rs) =
    ap (λ q. q ++ tokens_of_rows rs (end_array ∷ [])) (row_tree r.raw r.path r.from_attribute r.domain r.expires)
    ∙ ap (λ q. json_tokens (row_json r) ++ q) (rows_tree rs)

-- a text of a tree's tokens is read as the tree's value
read_tree : (text : List ℕ) (j : json.Json) (d : Data) → tokens text ≡ json_tokens j → depth j ≤ 127
    → of_json j ≡ Some d → read text ≡ Some d
read_tree text j d e deep is =
    let ts : tokens text ≡ json_tokens j ++ [] = e ∙ sym (append-nil (json_tokens j)) in
    let v : json.value 127 (json_tokens j ++ []) ≡ Some (j, []) = value-json_tokens j 127 [] deep in
    ap (λ k. option_and_then of_json (option_and_then (λ p. json.if_last p.0 p.1) (json.value 127 k))) ts
    ∙ ap (λ k. option_and_then of_json (option_and_then (λ p. json.if_last p.0 p.1) k)) v ∙ is

-- ---- whole texts

pub row_known : (text : List ℕ) (t : Shown) (r : Result (Option SavedRow) SavedTextError)
    → read text ≡ Some (row_value t) → IfOk r (λ row. IfSome row (IsShown t))
    → IfOk r (λ row. IfSome row (λ row. (u : Shown) × (read text ≡ Some (row_value u)) × IsShown u row))
row_known text t (Ok (Some row)) e h = (t, e, h)
row_known text t (Ok None) e h = tt
row_known text t (Err x) e h = tt

pub read_row : (text : List ℕ) (t : Shown) (rest : List Token) → tokens text ≡ tokens_of_row t ++ rest → rest ≡ []
    → read text ≡ Some (row_value t)
read_row text t rest e end =
    let is : tokens text ≡ json_tokens (row_json t) =
    e ∙ ap (λ q. tokens_of_row t ++ q) end ∙ append-nil (tokens_of_row t)
    ∙ row_tree t.raw t.path t.from_attribute t.domain t.expires in
    read_tree text (row_json t) (row_value t) is (depth_is t.raw t.path t.from_attribute t.domain t.expires)
    (value_is t.raw t.path t.from_attribute t.domain t.expires)

-- Rows so far, and the tokens that are left.
pub record Ordered (text : List ℕ) (rs : List SavedRow) (rest : List Token) : Type 0 where
  pub rows : List Shown
  pub split : tokens text ≡ begin_array ∷ tokens_of_rows rows rest
  pub shown : AreShown rows rs

pub ordered_start : (text : List ℕ) (rest : List Token) → tokens text ≡ begin_array ∷ rest → Ordered text [] rest
ordered_start text rest e = record { rows = []; split = e; shown = tt }

rows_onto : (rs : List Shown) (t : Shown) (rest : List Token)
    → tokens_of_rows rs (tokens_of_row t ++ rest) ≡ tokens_of_rows (rs ++ t ∷ []) rest
rows_onto [] t rest = refl
rows_onto (r ∷ rs) t rest = ap (λ q. tokens_of_row r ++ q) (rows_onto rs t rest)

pub ordered_more : (text : List ℕ) (rs : List SavedRow) (t : Shown) (r : SavedRow) (old new : List Token)
    → Ordered text rs old → old ≡ tokens_of_row t ++ new → IsShown t r → Ordered text (rs ++ r ∷ []) new
ordered_more text rs t r old new h e s = record {
  rows = h.rows ++ t ∷ [];
  split =
      h.split ∙ ap (λ q. begin_array ∷ tokens_of_rows h.rows q) e ∙ ap (λ q. begin_array ∷ q) (rows_onto h.rows t new);
  shown = shown_more h.rows rs t r h.shown s;
}

pub after_bracket : (old new : List Token) → after_end_array old ≡ Some new → old ≡ end_array ∷ new
after_bracket [] new e = absurd (true≢false (sym (ap is_some e)))
after_bracket (Token.begin_object ∷ ts) new e = absurd (true≢false (sym (ap is_some e)))
after_bracket (Token.end_object ∷ ts) new e = absurd (true≢false (sym (ap is_some e)))
after_bracket (Token.begin_array ∷ ts) new e = absurd (true≢false (sym (ap is_some e)))
after_bracket (Token.end_array ∷ ts) new e = ap (λ o. end_array ∷ unwrap_or o []) e
after_bracket (Token.key s ∷ ts) new e = absurd (true≢false (sym (ap is_some e)))
after_bracket (Token.string s ∷ ts) new e = absurd (true≢false (sym (ap is_some e)))
after_bracket (Token.number s ∷ ts) new e = absurd (true≢false (sym (ap is_some e)))
after_bracket (Token.boolean b ∷ ts) new e = absurd (true≢false (sym (ap is_some e)))
after_bracket (Token.null ∷ ts) new e = absurd (true≢false (sym (ap is_some e)))
after_bracket (Token.bad ∷ ts) new e = absurd (true≢false (sym (ap is_some e)))

pub ordered_end : (text : List ℕ) (rs : List SavedRow) (old rest : List Token) → Ordered text rs old
    → old ≡ end_array ∷ rest → rest ≡ [] → (all : List Shown) × (read text ≡ Some (rows_value all)) × AreShown all rs
ordered_end text rs old rest h e end =
    let is : tokens text ≡ json_tokens (json.array (rows_json h.rows)) =
    h.split ∙ ap (λ q. begin_array ∷ tokens_of_rows h.rows q) (e ∙ ap (λ q. end_array ∷ q) end)
    ∙ ap (λ q. begin_array ∷ q) (rows_tree h.rows) in
    let deep : depth (json.array (rows_json h.rows)) ≤ 127 = let k = rows_depth h.rows in omega (arith, k) in
    (h.rows, read_tree text (json.array (rows_json h.rows)) (rows_value h.rows) is deep (list_is h.rows), h.shown)

pub row_counts : (t : Shown) (old new : List Token) → old ≡ tokens_of_row t ++ new → length new < length old
row_counts t old new e =
    let n : length old ≡ length (tokens_of_row t) + length new = ap length e ∙ length-append (tokens_of_row t) new in
    let some : 0 < length (tokens_of_row t) = zero-lt-suc _ in
    omega (arith, n, some)
