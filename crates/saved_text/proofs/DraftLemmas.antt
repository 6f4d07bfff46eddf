-- A row of RON, field by field.
use Rattle.std.specs.Prelude.{Bool, true, false, Option, Some, None, option_map, flat_map}
use Rattle.std.proofs.Common.{
  ◌≡◌,
  ℕ,
  suc,
  ◌+◌,
  ◌<◌,
  ◌++◌,
  List,
  [],
  ◌∷◌,
  refl,
  sym,
  ap,
  ◌∙◌,
  arith,
  subst,
  append_assoc,
  length,
  length-append,
  Bor,
  String,
  Global,
  string_bytes,
}
use Rattle.std.proofs.lemmas.List.{append-nil}
use Rattle.std.proofs.lemmas.Grind.{flat_map-append}
use Rattle.std.proofs.lemmas.Bool.{false≢true}
use Rattle.std.specs.Option.{MatchOption}
use Rattle.std.specs.List.Sorted.{IsPermutation}
use Rattle.std.proofs.lemmas.List.Sorted.{
  IsPermutation-refl,
  IsPermutation-sym,
  IsPermutation-trans,
  IsPermutation-to_front,
  IsPermutation-append_left,
  IsPermutation-append_right,
}
use Rattle.saved_text.specs.Grammar.{Grammar, Word}
use Rattle.saved_text.specs.Grammar.Grammar.{nothing, space, sign, seq}
use Rattle.saved_text.specs.Reads.{Leads, Takes}
use Rattle.saved_text.specs.Faults.{StopsAs, Spaced, BeginsWith, closing}
use Rattle.saved_text.specs.Ron.{comma, fields, row, raw_field, path_field, domain_field, expires_field, ◌▹◌}
use Rattle.saved_text.specs.RowWords.{field_words}
use Rattle.saved_text.specs.Saved.{domain_shown, IsCookieText}
use Rattle.saved_text.specs.JsonReading.{HasDeath, IsReadable}
use Rattle.saved_text.specs.declared.row.SavedDomain.{SavedDomain}
use Rattle.saved_text.specs.Drafts.{
  IsWhole,
  Marks,
  Adds,
  IsDrafted,
  IsRowRead,
  IsLacking,
  IsSound,
  remaining,
  after,
  is_lacking,
  left,
  left_behind,
  unless,
  found,
  drafted,
  raw_words,
  path_words,
  words_of_domain,
  words_of_date,
}
use Rattle.saved_text.specs.declared.ron_text.Stop.{Stop}
use Rattle.saved_text.specs.declared.ron_drafts.Draft.{Draft}
use Rattle.saved_text.proofs.StepLemmas.{Same-refl, Leads-same, Leads-nothing, Leads-trans}
use Rattle.saved_text.proofs.RonLemmas.{Goes, Goes-from, Goes-trans, Goes-first, StopsAs-behind}
use Rattle.saved_text.proofs.RowLemmas.{Goes-spaces, Goes-part}
use Rattle.saved_text.proofs.FieldLemmas.{
  Goes-leads,
  Goes-silent,
  Takes-silent,
  StopsAs-within,
  whole_both,
  are_read_both,
  path_read,
  domain_read,
  Unreads-behind,
  Unreads-silent,
  Unreads-first,
}
use Rattle.saved_text.proofs.PickLemmas.{
  remaining_null,
  remaining_solid,
  after_lacking,
  raw_picked,
  path_picked,
  domain_picked,
  expires_picked,
}

-- ---- the words that are there

fill_first : {X : Type 0} (w : X) (b : List X) → IsPermutation (b ++ w ∷ []) (w ∷ b)
fill_first w b = IsPermutation-to_front b w

fill_in : {X : Type 0} (a b : List X) (w : X) (c : List X) → IsPermutation (b ++ w ∷ []) c
    → IsPermutation ((a ++ b) ++ w ∷ []) (a ++ c)
fill_in a b w c p = subst (λ q. IsPermutation q (a ++ c)) (sym (append_assoc a b (w ∷ [])))
    (IsPermutation-append_right a (b ++ w ∷ []) c p)

fill : (flag : Bool) (old w : List Word) (b : List (List Word)) → flag ≡ true
    → IsPermutation ((unless flag old ++ b) ++ w ∷ []) (unless false w ++ b)
fill flag old w b e = subst (λ f. IsPermutation ((unless f old ++ b) ++ w ∷ []) (unless false w ++ b)) (sym e)
    (fill_first w b)

fill_last : (flag : Bool) (old w : List Word) → flag ≡ true → IsPermutation (unless flag old ++ w ∷ []) (unless false w)
fill_last flag old w e = subst (λ f. IsPermutation (unless f old ++ w ∷ []) (unless false w)) (sym e)
    (IsPermutation-refl (w ∷ []))

-- ---- strings that don't read

-- what is known of strings that don't read, behind a step to the first of two parts
pub marks_first : (g k m : Grammar) (text : List ℕ) (words : List Word) (holds more : Type 0)
    (u : Option (Bor (List ℕ))) → Goes g text [] (seq k m) text → (holds → more) → Marks k text words holds u
    → Marks g text words more u
marks_first g k m text words holds more None l f n = (n.0, f n.1)
marks_first g k m text words holds more (Some q) l f n =
    Unreads-silent g (seq k m) text text q.now l (Unreads-first k m text q.now n)

-- ---- one field more

raw_left : (old : Draft) (text : List ℕ) → (old.lacks_raw_cookie ≡ true) × BeginsWith 114 text
    → Goes (left old) text [] (seq raw_field (after false old.lacks_path old.lacks_domain old.lacks_expires)) text
raw_left old text h = subst (λ b. Goes (remaining b old.lacks_path old.lacks_domain old.lacks_expires) text []
    (seq raw_field (after false old.lacks_path old.lacks_domain old.lacks_expires)) text) (sym h.0)
    (raw_picked old.lacks_path old.lacks_domain old.lacks_expires text h.1)

pub raw_stops : (old : Draft) (text : List ℕ) (e : Stop) → (old.lacks_raw_cookie ≡ true) × BeginsWith 114 text
    → StopsAs raw_field text e → StopsAs (left old) text e
raw_stops old text e h l = StopsAs-within (left old) raw_field
    (after false old.lacks_path old.lacks_domain old.lacks_expires) text text [] e (raw_left old text h) l

pub adds_raw : (old : Draft) (text rest : List ℕ) (value : String Global) (unread : Option (Bor (List ℕ)))
    → (old.lacks_raw_cookie ≡ true) × BeginsWith 114 text → Takes raw_field text (raw_words (string_bytes value)) rest
    × Marks raw_field text (raw_words (string_bytes value)) (IsCookieText (string_bytes value)) unread
    → Adds old text (record {
      raw_cookie = value;
      path = old.path;
      is_from_path_attr = old.is_from_path_attr;
      domain =
          old.domain;
      date = old.date;
      lacks_raw_cookie = false;
      lacks_path = old.lacks_path;
      lacks_domain =
          old.lacks_domain;
      lacks_expires = old.lacks_expires;
    }) unread rest
adds_raw old text rest value unread h t = record {
  words = (raw_words (string_bytes value));
  whole = tt;
  leads = Goes-leads (left old) (after false old.lacks_path old.lacks_domain old.lacks_expires) text rest
      (raw_words (string_bytes value))
      (Goes-trans (left old) (seq raw_field (after false old.lacks_path old.lacks_domain old.lacks_expires))
      (after false old.lacks_path old.lacks_domain old.lacks_expires) text text rest []
      (raw_words (string_bytes value)) (raw_left old text h)
      (Goes-first raw_field (after false old.lacks_path old.lacks_domain old.lacks_expires) text rest
      (raw_words (string_bytes value)) t.0));
  order = fill old.lacks_raw_cookie (raw_words (string_bytes old.raw_cookie)) (raw_words (string_bytes value))
      (unless old.lacks_path (path_words (string_bytes old.path) old.is_from_path_attr) ++
      (unless old.lacks_domain (words_of_domain (domain_shown old.domain)) ++ unless old.lacks_expires
      (words_of_date (option_map string_bytes old.date)))) h.0;
  marks = marks_first (left old) raw_field (after false old.lacks_path old.lacks_domain old.lacks_expires) text
      (raw_words (string_bytes value)) (IsCookieText (string_bytes value))
      (IsSound old → IsSound (record {
        raw_cookie = value;
        path = old.path;
        is_from_path_attr =
            old.is_from_path_attr;
        domain = old.domain;
        date = old.date;
        lacks_raw_cookie = false;
        lacks_path =
            old.lacks_path;
        lacks_domain = old.lacks_domain;
        lacks_expires = old.lacks_expires;
      })) unread
      (raw_left old text h) (λ k s. record { cookie = λ e. k; death = s.death }) t.1;
}

path_left : (old : Draft) (text : List ℕ) → (old.lacks_path ≡ true) × BeginsWith 112 text
    → Goes (left old) text [] (seq path_field (after old.lacks_raw_cookie false old.lacks_domain old.lacks_expires))
    text
path_left old text h = subst (λ b. Goes (remaining old.lacks_raw_cookie b old.lacks_domain old.lacks_expires) text []
    (seq path_field (after old.lacks_raw_cookie false old.lacks_domain old.lacks_expires)) text) (sym h.0)
    (path_picked old.lacks_raw_cookie old.lacks_domain old.lacks_expires text h.1)

pub path_stops : (old : Draft) (text : List ℕ) (e : Stop) → (old.lacks_path ≡ true) × BeginsWith 112 text
    → StopsAs path_field text e → StopsAs (left old) text e
path_stops old text e h l = StopsAs-within (left old) path_field
    (after old.lacks_raw_cookie false old.lacks_domain old.lacks_expires) text text [] e (path_left old text h) l

pub adds_path : (old : Draft) (text rest : List ℕ) (value : String Global) (flag : Bool)
    → (old.lacks_path ≡ true) × BeginsWith 112 text → Takes path_field text (path_words (string_bytes value) flag) rest
    → Adds old text (record {
      raw_cookie = old.raw_cookie;
      path = value;
      is_from_path_attr = flag;
      domain =
          old.domain;
      date = old.date;
      lacks_raw_cookie = old.lacks_raw_cookie;
      lacks_path = false;
      lacks_domain =
          old.lacks_domain;
      lacks_expires = old.lacks_expires;
    }) None rest
adds_path old text rest value flag h t = record {
  words = (path_words (string_bytes value) flag);
  whole = tt;
  leads = Goes-leads (left old) (after old.lacks_raw_cookie false old.lacks_domain old.lacks_expires) text rest
      (path_words (string_bytes value) flag)
      (Goes-trans (left old) (seq path_field (after old.lacks_raw_cookie false old.lacks_domain old.lacks_expires))
      (after old.lacks_raw_cookie false old.lacks_domain old.lacks_expires) text text rest []
      (path_words (string_bytes value) flag) (path_left old text h)
      (Goes-first path_field (after old.lacks_raw_cookie false old.lacks_domain old.lacks_expires) text rest
      (path_words (string_bytes value) flag) t));
  order = fill_in (unless old.lacks_raw_cookie (raw_words (string_bytes old.raw_cookie)))
      (unless old.lacks_path (path_words (string_bytes old.path) old.is_from_path_attr) ++
      (unless old.lacks_domain (words_of_domain (domain_shown old.domain)) ++ unless old.lacks_expires
      (words_of_date (option_map string_bytes old.date)))) (path_words (string_bytes value) flag)
      (unless false (path_words (string_bytes value) flag) ++
      (unless old.lacks_domain (words_of_domain (domain_shown old.domain)) ++ unless old.lacks_expires
      (words_of_date (option_map string_bytes old.date))))
      (fill old.lacks_path (path_words (string_bytes old.path) old.is_from_path_attr)
      (path_words (string_bytes value) flag)
      (unless old.lacks_domain (words_of_domain (domain_shown old.domain)) ++ unless old.lacks_expires
      (words_of_date (option_map string_bytes old.date))) h.0);
  marks = (path_read (string_bytes value) flag, λ s. record { cookie = s.cookie; death = s.death });
}

domain_left : (old : Draft) (text : List ℕ) → (old.lacks_domain ≡ true) × BeginsWith 100 text
    → Goes (left old) text [] (seq domain_field (after old.lacks_raw_cookie old.lacks_path false old.lacks_expires))
    text
domain_left old text h = subst (λ b. Goes (remaining old.lacks_raw_cookie old.lacks_path b old.lacks_expires) text []
    (seq domain_field (after old.lacks_raw_cookie old.lacks_path false old.lacks_expires)) text) (sym h.0)
    (domain_picked old.lacks_raw_cookie old.lacks_path old.lacks_expires text h.1)

pub domain_stops : (old : Draft) (text : List ℕ) (e : Stop) → (old.lacks_domain ≡ true) × BeginsWith 100 text
    → StopsAs domain_field text e → StopsAs (left old) text e
domain_stops old text e h l = StopsAs-within (left old) domain_field
    (after old.lacks_raw_cookie old.lacks_path false old.lacks_expires) text text [] e (domain_left old text h) l

pub adds_domain : (old : Draft) (text rest : List ℕ) (value : SavedDomain)
    → (old.lacks_domain ≡ true) × BeginsWith 100 text
    → Takes domain_field text (words_of_domain (domain_shown value)) rest
    → Adds old text (record {
      raw_cookie = old.raw_cookie;
      path = old.path;
      is_from_path_attr =
          old.is_from_path_attr;
      domain = value;
      date = old.date;
      lacks_raw_cookie = old.lacks_raw_cookie;
      lacks_path =
          old.lacks_path;
      lacks_domain = false;
      lacks_expires = old.lacks_expires;
    }) None rest
adds_domain old text rest value h t = record {
  words = (words_of_domain (domain_shown value));
  whole = tt;
  leads = Goes-leads (left old) (after old.lacks_raw_cookie old.lacks_path false old.lacks_expires) text rest
      (words_of_domain (domain_shown value))
      (Goes-trans (left old) (seq domain_field (after old.lacks_raw_cookie old.lacks_path false old.lacks_expires))
      (after old.lacks_raw_cookie old.lacks_path false old.lacks_expires) text text rest []
      (words_of_domain (domain_shown value)) (domain_left old text h)
      (Goes-first domain_field (after old.lacks_raw_cookie old.lacks_path false old.lacks_expires) text rest
      (words_of_domain (domain_shown value)) t));
  order = fill_in (unless old.lacks_raw_cookie (raw_words (string_bytes old.raw_cookie)))
      ((unless old.lacks_path (path_words (string_bytes old.path) old.is_from_path_attr)) ++
      (unless old.lacks_domain (words_of_domain (domain_shown old.domain)) ++
      (unless old.lacks_expires (words_of_date (option_map string_bytes old.date)))))
      (words_of_domain (domain_shown value))
      ((unless old.lacks_path (path_words (string_bytes old.path) old.is_from_path_attr)) ++
      (unless false (words_of_domain (domain_shown value)) ++
      (unless old.lacks_expires (words_of_date (option_map string_bytes old.date)))))
      (fill_in (unless old.lacks_path (path_words (string_bytes old.path) old.is_from_path_attr))
      (unless old.lacks_domain (words_of_domain (domain_shown old.domain)) ++
      (unless old.lacks_expires (words_of_date (option_map string_bytes old.date))))
      (words_of_domain (domain_shown value))
      (unless false (words_of_domain (domain_shown value)) ++
      (unless old.lacks_expires (words_of_date (option_map string_bytes old.date))))
      (fill old.lacks_domain (words_of_domain (domain_shown old.domain)) (words_of_domain (domain_shown value))
      (unless old.lacks_expires (words_of_date (option_map string_bytes old.date))) h.0));
  marks = (domain_read (domain_shown value), λ s. record { cookie = s.cookie; death = s.death });
}

expires_left : (old : Draft) (text : List ℕ) → (old.lacks_expires ≡ true) × BeginsWith 101 text
    → Goes (left old) text [] (seq expires_field (after old.lacks_raw_cookie old.lacks_path old.lacks_domain false))
    text
expires_left old text h = subst
    (λ b. Goes (remaining old.lacks_raw_cookie old.lacks_path old.lacks_domain b) text []
    (seq expires_field (after old.lacks_raw_cookie old.lacks_path old.lacks_domain false)) text) (sym h.0)
    (expires_picked old.lacks_raw_cookie old.lacks_path old.lacks_domain text h.1)

pub expires_stops : (old : Draft) (text : List ℕ) (e : Stop) → (old.lacks_expires ≡ true) × BeginsWith 101 text
    → StopsAs expires_field text e → StopsAs (left old) text e
expires_stops old text e h l = StopsAs-within (left old) expires_field
    (after old.lacks_raw_cookie old.lacks_path old.lacks_domain false) text text [] e (expires_left old text h) l

pub adds_expires : (old : Draft) (text rest : List ℕ) (value : Option (String Global))
    (unread : Option (Bor (List ℕ))) → (old.lacks_expires ≡ true) × BeginsWith 101 text
    → Takes expires_field text (words_of_date (option_map string_bytes value)) rest
    × Marks expires_field text (words_of_date (option_map string_bytes value))
    (HasDeath (option_map string_bytes value)) unread
    → Adds old text (record {
      raw_cookie = old.raw_cookie;
      path = old.path;
      is_from_path_attr =
          old.is_from_path_attr;
      domain = old.domain;
      date = value;
      lacks_raw_cookie =
          old.lacks_raw_cookie;
      lacks_path = old.lacks_path;
      lacks_domain = old.lacks_domain;
      lacks_expires = false;
    })
    unread rest
adds_expires old text rest value unread h t = record {
  words = (words_of_date (option_map string_bytes value));
  whole = tt;
  leads = Goes-leads (left old) (after old.lacks_raw_cookie old.lacks_path old.lacks_domain false) text rest
      (words_of_date (option_map string_bytes value))
      (Goes-trans (left old) (seq expires_field (after old.lacks_raw_cookie old.lacks_path old.lacks_domain false))
      (after old.lacks_raw_cookie old.lacks_path old.lacks_domain false) text text rest []
      (words_of_date (option_map string_bytes value)) (expires_left old text h)
      (Goes-first expires_field (after old.lacks_raw_cookie old.lacks_path old.lacks_domain false) text rest
      (words_of_date (option_map string_bytes value)) t.0));
  order = fill_in (unless old.lacks_raw_cookie (raw_words (string_bytes old.raw_cookie)))
      ((unless old.lacks_path (path_words (string_bytes old.path) old.is_from_path_attr)) ++
      ((unless old.lacks_domain (words_of_domain (domain_shown old.domain))) ++
      (unless old.lacks_expires (words_of_date (option_map string_bytes old.date)))))
      (words_of_date (option_map string_bytes value))
      ((unless old.lacks_path (path_words (string_bytes old.path) old.is_from_path_attr)) ++
      ((unless old.lacks_domain (words_of_domain (domain_shown old.domain))) ++
      (unless false (words_of_date (option_map string_bytes value)))))
      (fill_in (unless old.lacks_path (path_words (string_bytes old.path) old.is_from_path_attr))
      ((unless old.lacks_domain (words_of_domain (domain_shown old.domain))) ++
      (unless old.lacks_expires (words_of_date (option_map string_bytes old.date))))
      (words_of_date (option_map string_bytes value))
      ((unless old.lacks_domain (words_of_domain (domain_shown old.domain))) ++
      (unless false (words_of_date (option_map string_bytes value))))
      (fill_in (unless old.lacks_domain (words_of_domain (domain_shown old.domain)))
      (unless old.lacks_expires (words_of_date (option_map string_bytes old.date)))
      (words_of_date (option_map string_bytes value)) (unless false (words_of_date (option_map string_bytes value)))
      (fill_last old.lacks_expires (words_of_date (option_map string_bytes old.date))
      (words_of_date (option_map string_bytes value)) h.0)));
  marks = marks_first (left old) expires_field (after old.lacks_raw_cookie old.lacks_path old.lacks_domain false) text
      (words_of_date (option_map string_bytes value)) (HasDeath (option_map string_bytes value))
      (IsSound old → IsSound (record {
        raw_cookie = old.raw_cookie;
        path = old.path;
        is_from_path_attr =
            old.is_from_path_attr;
        domain = old.domain;
        date = value;
        lacks_raw_cookie = old.lacks_raw_cookie;
        lacks_path =
            old.lacks_path;
        lacks_domain = old.lacks_domain;
        lacks_expires = false;
      })) unread (expires_left old text h)
      (λ k s. record { cookie = s.cookie; death = λ e. k }) t.1;
}

-- ---- field after field

abbrev words_of : List (List Word) → List Word
words_of parts = flat_map (λ f. f) parts

flat_more : (parts : List (List Word)) (w : List Word) → words_of (parts ++ w ∷ []) ≡ words_of parts ++ w
flat_more parts w = flat_map-append (λ f. f) parts (w ∷ []) ∙ ap (λ q. words_of parts ++ q) (append-nil w)

pub marks_more : (g k : Grammar) (text rest : List ℕ) (s w : List Word) (holds more : Type 0)
    (u v r : Option (Bor (List ℕ))) → Goes g text s k rest → IsWhole s → IsWhole w
    → MatchOption u (r ≡ v) (λ q. r ≡ Some q) → Marks g text s holds u → Marks k rest w (holds → more) v
    → Marks g text (s ++ w) more r
marks_more g k text rest s w holds more None None r l a b e m n =
    subst (Marks g text (s ++ w) more) (sym e) (are_read_both [] [] s w b m.0 n.0, n.1 m.1)
marks_more g k text rest s w holds more None (Some q) r l a b e m n =
    subst (Marks g text (s ++ w) more) (sym e) (Unreads-behind g k text rest q.now s l a m.0 n)
marks_more g k text rest s w holds more (Some p) v r l a b e m n = subst (Marks g text (s ++ w) more) (sym e) m

pub marks_map : (g : Grammar) (text : List ℕ) (s : List Word) (holds more : Type 0) (u : Option (Bor (List ℕ)))
    → (holds → more) → Marks g text s holds u → Marks g text s more u
marks_map g text s holds more None f m = (m.0, f m.1)
marks_map g text s holds more (Some q) f m = m

drafted_goes : (g k : Grammar) (text rest : List ℕ) (d : Draft) (u : Option (Bor (List ℕ)))
    → (i : IsDrafted g text d u k rest) → Goes g text (words_of i.parts) k rest
drafted_goes g k text rest d u i = Goes-from g text (words_of i.parts) k rest i.leads

pub drafted_start : (text : List ℕ) (d : Draft) → (d.lacks_raw_cookie ≡ true) × (d.lacks_path ≡ true)
    × (d.lacks_domain ≡ true) × (d.lacks_expires ≡ true) → IsDrafted fields text d None (left d) text × IsLacking d
drafted_start text d h =
    let none : found d ≡ [] = λ i. unless (h.0 i) (raw_words (string_bytes d.raw_cookie)) ++
    (unless (h.1 i) (path_words (string_bytes d.path) d.is_from_path_attr) ++
    (unless (h.2 i) (words_of_domain (domain_shown d.domain)) ++ unless (h.3 i)
    (words_of_date (option_map string_bytes d.date)))) in
    let all : left d ≡ fields = λ i. remaining (h.0 i) (h.1 i) (h.2 i) (h.3 i) in (
      record {
        parts = [];
        order = subst (λ q. IsPermutation q []) (sym none) (IsPermutation-refl []);
        whole = tt;
        leads = λ k. subst (λ q. Leads (seq fields k) text [] (seq q k) text) (sym all)
            (Leads-same (seq fields k) (seq fields k) text (Same-refl (seq fields k)));
        marks = (
          tt,
          record {
            cookie = λ e. absurd (false≢true (sym e ∙ h.0));
            death =
                λ e. absurd (false≢true (sym e ∙ h.3));
          },
        );
      },
      λ i. is_lacking (h.0 i) (h.1 i) (h.2 i) (h.3 i),
    )

pub drafted_more : (text rest behind : List ℕ) (d e : Draft) (u v r : Option (Bor (List ℕ)))
    → IsDrafted fields text d u (left d) rest → Adds d rest e v behind → MatchOption u (r ≡ v) (λ q. r ≡ Some q)
    → IsDrafted fields text e r (left_behind e) behind
drafted_more text rest behind d e u v r i a m =
    let s = words_of i.parts in
    let goes = drafted_goes fields (left d) text rest d u i in
    let on : Goes (left d) rest a.words (left_behind e) behind =
    Goes-from (left d) rest a.words (left_behind e) behind a.leads in
    let more = sym (flat_more i.parts a.words) in
    record {
      parts = i.parts ++ a.words ∷ [];
      order = IsPermutation-trans (found e) (found d ++ a.words ∷ []) (i.parts ++ a.words ∷ [])
          (IsPermutation-sym (found d ++ a.words ∷ []) (found e) a.order)
          (IsPermutation-append_left (a.words ∷ []) (found d) i.parts i.order);
      whole = subst IsWhole more (whole_both s a.words i.whole a.whole);
      leads = Goes-leads fields (left_behind e) text behind (words_of (i.parts ++ a.words ∷ []))
          (subst (λ w. Goes fields text w (left_behind e) behind) more
          (Goes-trans fields (left d) (left_behind e) text rest behind s a.words goes on));
      marks = subst (λ w. Marks fields text w (IsSound e) r) more
          (marks_more fields (left d) text rest s a.words (IsSound d) (IsSound e) u v r goes i.whole a.whole m i.marks
          a.marks);
    }

-- a comma before the next field
comma_goes : (e : Draft) (behind b : List ℕ) → IsLacking e → Spaced behind b
    → Goes (left_behind e) behind [] (comma ▹ left e) b
comma_goes e behind b l s =
    subst (λ q. Goes q behind [] (comma ▹ left e) b)
    (sym (after_lacking e.lacks_raw_cookie e.lacks_path e.lacks_domain e.lacks_expires l))
    (Goes-spaces (comma ▹ left e) behind b refl refl s)

comma_then : (e : Draft) (behind b c next : List ℕ) → IsLacking e → Spaced behind b → Takes (sign (44 ∷ [])) b [] c
    → Spaced c next → Goes (left_behind e) behind [] (left e) next
comma_then e behind b c next l s t n =
    Goes-silent (left_behind e) (comma ▹ left e) (left e) behind b next [] (comma_goes e behind b l s)
    (Goes-part comma (left e) b c next []
    (remaining_null e.lacks_raw_cookie e.lacks_path e.lacks_domain e.lacks_expires l)
    (remaining_solid e.lacks_raw_cookie e.lacks_path e.lacks_domain e.lacks_expires l) t n)

pub drafted_next : (text behind b c next : List ℕ) (e : Draft) (r : Option (Bor (List ℕ)))
    → IsDrafted fields text e r (left_behind e) behind → IsLacking e → Spaced behind b → Takes (sign (44 ∷ [])) b [] c
    → Spaced c next → IsDrafted fields text e r (left e) next
drafted_next text behind b c next e r i l s t n = record {
  parts = i.parts;
  order = i.order;
  whole = i.whole;
  leads = Goes-leads fields (left e) text next (words_of i.parts)
      (Goes-silent fields (left_behind e) (left e) text behind next (words_of i.parts)
      (drafted_goes fields (left_behind e) text behind e r i) (comma_then e behind b c next l s t n));
  marks = i.marks;
}

pub comma_stops : (text behind b : List ℕ) (e : Draft) (r : Option (Bor (List ℕ))) (f : Stop)
    → IsDrafted fields text e r (left_behind e) behind → IsLacking e → Spaced behind b → StopsAs (sign (44 ∷ [])) b f
    → StopsAs fields text f
comma_stops text behind b e r f i l s t =
    StopsAs-behind fields (left_behind e) text behind (words_of i.parts) f
    (drafted_goes fields (left_behind e) text behind e r i)
    (StopsAs-within (left_behind e) comma (seq space (left e)) behind b [] f (comma_goes e behind b l s) t)

pub field_stops : (text rest : List ℕ) (d : Draft) (u : Option (Bor (List ℕ))) (f : Stop)
    → IsDrafted fields text d u (left d) rest → StopsAs (left d) rest f → StopsAs fields text f
field_stops text rest d u f i t = StopsAs-behind fields (left d) text rest (words_of i.parts) f
    (drafted_goes fields (left d) text rest d u i) t

-- ---- all four

none_lacking : (r p d e : Bool) → is_lacking r p d e ≡ false → (r ≡ false) × (p ≡ false) × (d ≡ false) × (e ≡ false)
none_lacking true p d e h = absurd (false≢true (sym h))
none_lacking false true d e h = absurd (false≢true (sym h))
none_lacking false false true e h = absurd (false≢true (sym h))
none_lacking false false false true h = absurd (false≢true (sym h))
none_lacking false false false false h = (refl, refl, refl, refl)

pub fields_read : (text rest : List ℕ) (d : Draft) (u : Option (Bor (List ℕ)))
    → IsDrafted fields text d u (left_behind d) rest → is_lacking d.lacks_raw_cookie d.lacks_path d.lacks_domain
    d.lacks_expires ≡ false → IsRowRead fields text d u rest
fields_read text rest d u i l =
    let h = none_lacking d.lacks_raw_cookie d.lacks_path d.lacks_domain d.lacks_expires l in
    let all : found d ≡ field_words (drafted d) = λ i. unless (h.0 i) (raw_words (string_bytes d.raw_cookie)) ++
    (unless (h.1 i) (path_words (string_bytes d.path) d.is_from_path_attr) ++
    (unless (h.2 i) (words_of_domain (domain_shown d.domain)) ++ unless (h.3 i)
    (words_of_date (option_map string_bytes d.date)))) in
    let none : left_behind d ≡ nothing = λ i. after (h.0 i) (h.1 i) (h.2 i) (h.3 i) in
    record {
      said = words_of i.parts;
      says = (i.parts, subst (λ q. IsPermutation q i.parts) all i.order, refl);
      whole = i.whole;
      takes = λ k.
          let to : Leads (seq fields k) text (words_of i.parts) (seq nothing k) rest =
          subst (λ q. Leads (seq fields k) text (words_of i.parts) (seq q k) rest) none (i.leads k) in
          subst (λ w. Leads (seq fields k) text w k rest) (append-nil (words_of i.parts))
          (Leads-trans (seq fields k) (seq nothing k) k text rest rest (words_of i.parts) [] to
          (Leads-nothing k rest));
      marks = marks_map fields text (words_of i.parts) (IsSound d) (IsReadable (drafted d)) u
          (λ s. (s.cookie h.0, s.death h.3)) i.marks;
    }

-- ---- what gets shorter

pub sign_split : (s text rest : List ℕ) (w : List Word) → Takes (sign s) text w rest → text ≡ s ++ rest
sign_split s text rest w l =
    let d = l nothing in
    let o = d.up [] [] (refl, refl) in
    d.split ∙ ap (λ r. r ++ rest) (sym (append-nil d.x) ∙ o.6 ∙ (λ i. o.4.0 i ++ o.5.0 i) ∙ append-nil s)

pub field_shorter : (d e : Draft) (rest behind b c next : List ℕ) (v : Option (Bor (List ℕ))) → Adds d rest e v behind
    → Spaced behind b → Takes (sign (44 ∷ [])) b [] c → Spaced c next → length next < length rest
field_shorter d e rest behind b c next v a s t n =
    let l = a.leads nothing in
    let first : length rest ≡ length l.x + length behind = ap length l.split ∙ length-append l.x behind in
    let second : length behind ≡ length s.0 + length b = ap length s.2 ∙ length-append s.0 b in
    let third : length b ≡ suc (length c) = ap length (sign_split (44 ∷ []) b c [] t) in
    let fourth : length c ≡ length n.0 + length next = ap length n.2 ∙ length-append n.0 next in
    omega (arith, first, second, third, fourth)

-- ---- a row in its brackets

pub row_opens : (text a b : List ℕ) → Takes (sign (40 ∷ [])) text [] a → Spaced a b
    → Goes row text [] (seq fields (seq space closing)) b
row_opens text a b l s = Goes-part (sign (40 ∷ [])) (seq fields (seq space closing)) text a b [] refl refl l s

pub row_holds : (text b e f : List ℕ) (d : Draft) (u : Option (Bor (List ℕ)))
    → Goes row text [] (seq fields (seq space closing)) b → (r : IsRowRead fields b d u e) → Spaced e f
    → Goes row text r.said closing f
row_holds text b e f d u l r s = Goes-trans row (seq fields (seq space closing)) closing text b f [] r.said l
    (Goes-part fields closing b e f r.said refl refl r.takes s)

row_marks : (text b : List ℕ) (s : List Word) (holds : Type 0) (u : Option (Bor (List ℕ)))
    → Goes row text [] (seq fields (seq space closing)) b → Marks fields b s holds u → Marks row text s holds u
row_marks text b s holds None l m = m
row_marks text b s holds (Some q) l m = Unreads-silent row (seq fields (seq space closing)) text b q.now l
    (Unreads-first fields (seq space closing) b q.now m)

pub row_read : (text b e f rest : List ℕ) (d : Draft) (u : Option (Bor (List ℕ)))
    → Goes row text [] (seq fields (seq space closing)) b → IsRowRead fields b d u e → Spaced e f
    → Takes closing f [] rest → IsRowRead row text d u rest
row_read text b e f rest d u l r s t = record {
  said = r.said;
  says = r.says;
  whole = r.whole;
  takes = Takes-silent row closing text f rest r.said (row_holds text b e f d u l r s) t;
  marks = row_marks text b r.said (IsReadable (drafted d)) u l r.marks;
}
