-- The fields of a row of RON.
use Rattle.std.specs.Prelude.{Bool, true, false, Option, Some, None, option_map, IsTrue, codes}
use Rattle.std.proofs.Common.{
  ◌≡◌,
  ℕ,
  ◌++◌,
  List,
  [],
  ◌∷◌,
  refl,
  sym,
  ◌∙◌,
  arith,
  subst,
  append_assoc,
  Result,
  MatchResult,
  Bor,
  String,
  Global,
  string_bytes,
}
use Rattle.std.proofs.lemmas.List.{append-nil}
use Rattle.saved_text.specs.Grammar.{Grammar, Word, letters}
use Rattle.saved_text.specs.Grammar.Grammar.{space, sign, seq, either}
use Rattle.saved_text.specs.Grammar.Word.{the_name, letter, the_end}
use Rattle.saved_text.specs.Reads.{Leads, Takes}
use Rattle.saved_text.specs.Faults.{StopsAs, BeginsOtherwise, Spaced, BeginsWith, closing}
use Rattle.saved_text.specs.Words.{string_words, tagged, heading}
use Rattle.saved_text.specs.RowWords.{bool_words, expires_words}
use Rattle.saved_text.specs.RonReading.{ReadsAs, AreRead}
use Rattle.saved_text.specs.Saved.{IsCookieText}
use Rattle.saved_text.specs.JsonReading.{HasDeath}
use Rattle.saved_text.specs.Row.{Domain, host_only, suffix, not_present, empty}
use Rattle.saved_text.specs.Drafts.{IsWhole, Unreads, Marks, raw_words, path_words, words_of_domain, words_of_date}
use Rattle.saved_text.specs.declared.ron_text.Stop.{Stop}
use Rattle.saved_text.specs.declared.row.SavedExpiration.TheVariants as expiration
use Rattle.saved_text.specs.Ron.{
  string,
  bracketed,
  field,
  name,
  comma,
  bool,
  path,
  expires,
  raw_field,
  expires_field,
  ◌▹◌,
}
use Rattle.saved_text.proofs.StepLemmas.{
  starts,
  nullable,
  solid,
  head_same,
  Same,
  Same-trans,
  Same-sym,
  Same-assoc,
  seq_parts,
  Leads-trans,
  Leads-same,
}
use Rattle.saved_text.proofs.RonLemmas.{
  Goes,
  Goes-from,
  Goes-trans,
  Goes-same,
  Goes-left,
  Takes-behind,
  StopsAs-behind,
  StopsAs-first,
  result_map,
}
use Rattle.saved_text.proofs.RowLemmas.{
  Goes-part,
  Goes-else,
  Takes-name,
  StopsAs-name,
  StopsAs-bracket,
  bracket_opens,
  tag_said,
  lacks_name,
  lacks_tag,
}
use Rattle.saved_text.proofs.ListLemmas.{seq_left}

-- ---- steps

-- a step of the first part
pub Goes-inside : (g m k : Grammar) (a b : List ℕ) (s : List Word) → Goes g a s m b → Goes (seq g k) a s (seq m k) b
unfolding Goes
Goes-inside g m k a b s l h =
    subst (λ w. Leads (seq (seq g k) h) a w (seq (seq m k) h) b) (append-nil s)
    (Leads-trans (seq (seq g k) h) (seq g (seq k h)) (seq (seq m k) h) a a b [] (s ++ [])
    (Leads-same (seq (seq g k) h) (seq g (seq k h)) a (Same-assoc g k h))
    (Leads-trans (seq g (seq k h)) (seq m (seq k h)) (seq (seq m k) h) a b b s [] (l (seq k h))
    (Leads-same (seq m (seq k h)) (seq (seq m k) h) b
    (Same-sym (seq (seq m k) h) (seq m (seq k h)) (Same-assoc m k h)))))

pub Goes-leads : (g k : Grammar) (a b : List ℕ) (s : List Word) → Goes g a s k b → (h : Grammar)
    → Leads (seq g h) a s (seq k h) b
unfolding Goes
Goes-leads g k a b s l = l

-- a step that says nothing more
pub Goes-silent : (g k m : Grammar) (a b c : List ℕ) (s : List Word) → Goes g a s k b → Goes k b [] m c → Goes g a s m c
Goes-silent g k m a b c s l n = subst (λ w. Goes g a w m c) (append-nil s) (Goes-trans g k m a b c s [] l n)

pub Takes-silent : (g k : Grammar) (a b c : List ℕ) (s : List Word) → Goes g a s k b → Takes k b [] c → Takes g a s c
Takes-silent g k a b c s l n = subst (λ w. Takes g a w c) (append-nil s) (Takes-behind g k a b c s [] l n)

pub pick_left : (a b : Grammar) (c : ℕ) (text : List ℕ) → BeginsWith c text → nullable b ≡ false → starts b c ≡ false
    → Goes (either a b) text [] a text
pick_left a b c text t n m = subst (λ q. Goes (either a b) q [] a q) (sym t.1) (Goes-left a b c t.0 n m)

-- what a call answered, behind a step
pub result_rest_behind : (g k : Grammar) (text rest : List ℕ) (s : List Word) (r : Result (Bor (List ℕ)) Stop)
    → Goes g text s k rest
    → MatchResult r (λ p. Takes k rest [] p.now) (StopsAs k rest)
    → MatchResult r (λ p. Takes g text s p.now) (StopsAs g text)
result_rest_behind g k text rest s r l m = result_map r _ _ _ _ (λ p n. Takes-silent g k text rest p.now s l n)
    (λ e n. StopsAs-behind g k text rest s e l n) m

-- ---- a name and a colon

pub heading_opens : (n text a b : List ℕ) → Takes (sign n) text [] a → Spaced a b
    → Goes (heading n) text (the_name n ∷ []) (sign (codes ":")) b
heading_opens n text a b l s = Goes-part (name n) (sign (codes ":")) text a b (the_name n ∷ []) refl refl
    (Takes-name n text a l) s

pub StopsAs-heading : (n text : List ℕ) (e : Stop) → StopsAs (sign n) text e → StopsAs (heading n) text e
StopsAs-heading n text e l = StopsAs-first (name n) (seq space (sign (codes ":"))) text e (StopsAs-name n text e l)

Same-field : (n : List ℕ) (g : Grammar) → Same (field n g) (seq (heading n) (seq space g))
Same-field n g =
    let C : Grammar = sign (codes ":") in
    let S : Grammar = seq space g in
    Same-sym (seq (heading n) S) (field n g)
    (Same-trans (seq (heading n) S) (seq (name n) (seq (seq space C) S)) (field n g)
    (Same-assoc (name n) (seq space C) S)
    (seq_parts (name n) (seq (seq space C) S) (seq space (seq C S)) (Same-assoc space C S)))

Goes-heading : (n : List ℕ) (g : Grammar) (text : List ℕ)
    → Goes (field n g) text [] (seq (heading n) (seq space g)) text
Goes-heading n g text = Goes-same (field n g) (seq (heading n) (seq space g)) text
    (λ h. seq_left (field n g) (seq (heading n) (seq space g)) h (Same-field n g))

-- behind its name, colon and white space the field is its value
pub field_opens : (n : List ℕ) (g : Grammar) (text a b : List ℕ) → nullable g ≡ false → IsTrue (solid g)
    → Takes (heading n) text (the_name n ∷ []) a → Spaced a b → Goes (field n g) text (the_name n ∷ []) g b
field_opens n g text a b e t l s =
    Goes-trans (field n g) (seq (heading n) (seq space g)) g text text b [] (the_name n ∷ []) (Goes-heading n g text)
    (Goes-part (heading n) g text a b (the_name n ∷ []) e t l s)

pub StopsAs-field : (n : List ℕ) (g : Grammar) (text : List ℕ) (e : Stop) → StopsAs (heading n) text e
    → StopsAs (field n g) text e
StopsAs-field n g text e l = StopsAs-behind (field n g) (seq (heading n) (seq space g)) text text [] e
    (Goes-heading n g text) (StopsAs-first (heading n) (seq space g) text e l)

-- ---- true and false

pub bool_true : (text : List ℕ) → BeginsWith 116 text → Goes bool text [] (name (codes "true")) text
bool_true text b = pick_left (name (codes "true")) (name (codes "false")) 116 text b refl refl

pub bool_false : (text : List ℕ) → BeginsOtherwise 116 text → Goes bool text [] (name (codes "false")) text
bool_false text l = Goes-else (name (codes "true")) (name (codes "false")) text refl
    (lacks_name 116 (codes "rue") text l)

pub Takes-picked_name : (g : Grammar) (n text rest : List ℕ) → Goes g text [] (name n) text
    → Takes (sign n) text [] rest → Takes g text (the_name n ∷ []) rest
Takes-picked_name g n text rest l t = Takes-behind g (name n) text text rest [] (the_name n ∷ []) l
    (Takes-name n text rest t)

pub StopsAs-picked_name : (g : Grammar) (n text : List ℕ) (e : Stop) → Goes g text [] (name n) text
    → StopsAs (sign n) text e → StopsAs g text e
StopsAs-picked_name g n text e l t = StopsAs-behind g (name n) text text [] e l (StopsAs-name n text e t)

-- ---- a path

abbrev path_end : Grammar
path_end = seq space closing

abbrev path_inner : Grammar
path_inner = string ▹ comma ▹ bool

abbrev pub path_flag : Grammar
path_flag = comma ▹ bool

pub path_opens : (text a b : List ℕ) → Takes (sign (40 ∷ [])) text [] a → Spaced a b
    → Goes path text [] (seq (string ▹ comma ▹ bool) (seq space closing)) b
path_opens text a b l s = Goes-part (sign (40 ∷ [])) (seq path_inner path_end) text a b [] refl refl l s

pub path_named : (text b d e : List ℕ) (w : List Word)
    → Goes path text [] (seq (string ▹ comma ▹ bool) (seq space closing)) b → Takes string b w d → Spaced d e
    → Goes path text w (seq path_flag (seq space closing)) e
path_named text b d e w l t s = Goes-trans path (seq path_inner path_end) (seq path_flag path_end) text b e [] w l
    (Goes-inside path_inner path_flag path_end b e w (Goes-part string path_flag b d e w refl refl t s))

pub path_parted : (text e f i : List ℕ) (w : List Word) → Goes path text w (seq path_flag (seq space closing)) e
    → Takes (sign (44 ∷ [])) e [] f → Spaced f i → Goes path text w (seq bool (seq space closing)) i
path_parted text e f i w l t s = Goes-silent path (seq path_flag path_end) (seq bool path_end) text e i w l
    (Goes-inside path_flag bool path_end e i [] (Goes-part comma bool e f i [] refl refl t s))

pub path_flagged : (text i j k : List ℕ) (w v : List Word) → Goes path text w (seq bool (seq space closing)) i
    → Takes bool i v j → Spaced j k → Goes path text (w ++ v) closing k
path_flagged text i j k w v l t s = Goes-trans path (seq bool path_end) closing text i k w v l
    (Goes-part bool closing i j k v refl refl t s)

pub StopsAs-within : (g a k : Grammar) (text rest : List ℕ) (s : List Word) (e : Stop) → Goes g text s (seq a k) rest
    → StopsAs a rest e → StopsAs g text e
StopsAs-within g a k text rest s e l t = StopsAs-behind g (seq a k) text rest s e l (StopsAs-first a k rest e t)

-- ---- what reads

are_read_letters : (n begun bytes : List ℕ) (said : List Word) → ReadsAs n (begun ++ bytes) → AreRead n [] said
    → AreRead n begun (letters bytes ++ the_end ∷ said)
are_read_letters n begun [] said r a = (subst (ReadsAs n) (append-nil begun) r, a)
are_read_letters n begun (b ∷ bytes) said r a = are_read_letters n (begun ++ b ∷ []) bytes said
    (subst (ReadsAs n) (sym (append_assoc begun (b ∷ []) bytes)) r) a

-- the string reads behind its name, and so do the words behind
pub are_read_string : (n value : List ℕ) (said : List Word) → ReadsAs n value → AreRead n [] said
    → AreRead n [] (letters value ++ the_end ∷ said)
are_read_string n value said r a = are_read_letters n [] value said r a

-- no name that asks anything
pub anything : (n value : List ℕ) (b : ℕ) (r : List ℕ) → n ≡ b ∷ r → (b ≡ 114 → ⊥) → (b ≡ 65 → ⊥) → ReadsAs n value
anything n value b r e not_r not_a =
    (λ f. absurd (not_r (head_same b 114 r _ (sym e ∙ f))), λ f. absurd (not_a (head_same b 65 r _ (sym e ∙ f))))

pub reads_cookie : (value : List ℕ) → IsCookieText value → ReadsAs (codes "raw_cookie") value
reads_cookie value h = (λ e. h, λ e. absurd (let f : 114 ≡ 65 = head_same 114 65 _ _ e in omega (arith, f)))

pub reads_date : (value : List ℕ) → HasDeath (Some value) → ReadsAs (codes "AtUtc") value
reads_date value h = (λ e. absurd (let f : 65 ≡ 114 = head_same 65 114 _ _ e in omega (arith, f)), λ e. h)

pub raw_read : (value : List ℕ) → IsCookieText value → AreRead [] [] (raw_words value)
raw_read value h = are_read_string (codes "raw_cookie") value [] (reads_cookie value h) tt

pub path_read : (value : List ℕ) (flag : Bool) → AreRead [] [] (path_words value flag)
path_read value flag =
    subst (AreRead (codes "path") []) (sym (append_assoc (letters value) (the_end ∷ []) (bool_words flag)))
    (are_read_string (codes "path") value (bool_words flag)
    (anything (codes "path") value 112 _ refl (λ e. absurd (omega (arith, e))) (λ e. absurd (omega (arith, e))))
    (flag_read flag))
  where
    flag_read : (b : Bool) → AreRead (codes "path") [] (bool_words b)
    flag_read true = tt
    flag_read false = tt

pub domain_read : (d : Domain) → AreRead [] [] (words_of_domain d)
domain_read (host_only t) = are_read_string (codes "HostOnly") t []
    (anything (codes "HostOnly") t 72 _ refl (λ e. absurd (omega (arith, e))) (λ e. absurd (omega (arith, e)))) tt
domain_read (suffix t) = are_read_string (codes "Suffix") t []
    (anything (codes "Suffix") t 83 _ refl (λ e. absurd (omega (arith, e))) (λ e. absurd (omega (arith, e)))) tt
domain_read not_present = tt
domain_read empty = tt

pub date_read : (value : List ℕ) → HasDeath (Some value) → AreRead [] [] (expires_words (Some value))
date_read value h = are_read_string (codes "AtUtc") value [] (reads_date value h) tt

-- ---- words that read, and others behind them

pub whole_both : (s t : List Word) → IsWhole s → IsWhole t → IsWhole (s ++ t)
whole_both [] t h k = k
whole_both (the_name n ∷ s) t h k = tt
whole_both (letter b ∷ s) t h k = absurd h
whole_both (the_end ∷ s) t h k = absurd h

read_front : (n begun : List ℕ) (t : List Word) → IsWhole t → AreRead [] [] t → AreRead n begun t
read_front n begun [] h a = tt
read_front n begun (the_name m ∷ t) h a = a
read_front n begun (letter b ∷ t) h a = absurd h
read_front n begun (the_end ∷ t) h a = absurd h

pub are_read_both : (n begun : List ℕ) (s t : List Word) → IsWhole t → AreRead n begun s → AreRead [] [] t
    → AreRead n begun (s ++ t)
are_read_both n begun [] t h a b = read_front n begun t h b
are_read_both n begun (the_name m ∷ s) t h a b = are_read_both m [] s t h a b
are_read_both n begun (letter c ∷ s) t h a b = are_read_both n (begun ++ c ∷ []) s t h a b
are_read_both n begun (the_end ∷ s) t h a b = (a.0, are_read_both n [] s t h a.1 b)

-- ---- a string that doesn't read

-- behind words that read
pub Unreads-behind : (g k : Grammar) (text rest q : List ℕ) (s : List Word) → Goes g text s k rest → IsWhole s
    → AreRead [] [] s → Unreads k rest q → Unreads g text q
unfolding Goes
Unreads-behind g k text rest q s l whole read u = record {
  before = s ++ u.before;
  name = u.name;
  value = u.value;
  behind = u.behind;
  leads = λ h.
      let n = u.leads h in (
        n.0,
        subst (λ w. Leads (seq g h) text w (seq string n.0) q) (sym (append_assoc s u.before (the_name u.name ∷ [])))
            (Leads-trans (seq g h) (seq k h) (seq string n.0) text rest q s (u.before ++ the_name u.name ∷ []) (l h)
            n.1),
      );
  string = u.string;
  whole = whole_both s u.before whole u.whole;
  first = are_read_both [] [] s u.before u.whole read u.first;
  unread = u.unread;
}

pub Unreads-silent : (g k : Grammar) (text rest q : List ℕ) → Goes g text [] k rest → Unreads k rest q
    → Unreads g text q
unfolding Goes
Unreads-silent g k text rest q l u = record {
  before = u.before;
  name = u.name;
  value = u.value;
  behind = u.behind;
  leads = λ h.
      let n = u.leads h in (
        n.0,
        Leads-trans (seq g h) (seq k h) (seq string n.0) text rest q [] (u.before ++ the_name u.name ∷ []) (l h)
            n.1,
      );
  string = u.string;
  whole = u.whole;
  first = u.first;
  unread = u.unread;
}

pub Unreads-first : (g k : Grammar) (text q : List ℕ) → Unreads g text q → Unreads (seq g k) text q
Unreads-first g k text q u = record {
  before = u.before;
  name = u.name;
  value = u.value;
  behind = u.behind;
  leads = λ h.
      let n = u.leads (seq k h) in (
        n.0,
        Leads-trans (seq (seq g k) h) (seq g (seq k h)) (seq string n.0) text text q []
            (u.before ++ the_name u.name ∷ [])
            (Leads-same (seq (seq g k) h) (seq g (seq k h)) text (Same-assoc g k h)) n.1,
      );
  string = u.string;
  whole = u.whole;
  first = u.first;
  unread = u.unread;
}

-- right behind its name
pub Unreads-here : (g : Grammar) (text q behind : List ℕ) (n value : List ℕ) → Goes g text (the_name n ∷ []) string q
    → Takes string q (string_words value) behind → ¬ ReadsAs n value → Unreads g text q
unfolding Goes
Unreads-here g text q behind n value l t u = record {
  before = [];
  name = n;
  value = value;
  behind = behind;
  leads = λ h. (h, l h);
  string = t;
  whole = tt;
  first = tt;
  unread = u;
}

pub Unreads-within : (g k : Grammar) (text q behind : List ℕ) (n value : List ℕ)
    → Goes g text (the_name n ∷ []) (seq string k) q → Takes string q (string_words value) behind → ¬ ReadsAs n value
    → Unreads g text q
unfolding Goes
Unreads-within g k text q behind n value l t u = record {
  before = [];
  name = n;
  value = value;
  behind = behind;
  leads = λ h. (
    seq k h,
    Leads-trans (seq g h) (seq (seq string k) h) (seq string (seq k h)) text q q
        (the_name n ∷ []) [] (l h) (Leads-same (seq (seq string k) h) (seq string (seq k h)) q (Same-assoc string k h)),
  );
  string = t;
  whole = tt;
  first = tt;
  unread = u;
}

-- ---- a death

abbrev at_utc : Grammar
at_utc = tagged (codes "AtUtc")

abbrev session_end : Grammar
session_end = name (codes "SessionEnd")

pub expires_date : (text : List ℕ) → BeginsWith 65 text → Goes expires text [] (tagged (codes "AtUtc")) text
expires_date text b = pick_left at_utc session_end 65 text b refl refl

pub expires_session : (text : List ℕ) → BeginsOtherwise 65 text → Goes expires text [] (name (codes "SessionEnd")) text
expires_session text l = Goes-else at_utc session_end text refl (lacks_tag 65 (codes "tUtc") text l)

pub tag_opens : (n text a b d q : List ℕ) → Takes (sign n) text [] a → Spaced a b → Takes (sign (40 ∷ [])) b [] d
    → Spaced d q → Goes (tagged n) text (the_name n ∷ []) (seq string (seq space closing)) q
tag_opens n text a b d q l s m t = Goes-silent (tagged n) (bracketed string) (seq string (seq space closing)) text b q
    (the_name n ∷ []) (tag_said n text a b l s) (bracket_opens b d q m t)

pub StopsAs-tag_bracket : (n text a b : List ℕ) (e : Stop) → Takes (sign n) text [] a → Spaced a b
    → StopsAs (sign (40 ∷ [])) b e → StopsAs (tagged n) text e
StopsAs-tag_bracket n text a b e l s m = StopsAs-behind (tagged n) (bracketed string) text b (the_name n ∷ []) e
    (tag_said n text a b l s) (StopsAs-bracket b e m)

abbrev quoted_rest : Grammar
quoted_rest = seq string (seq space closing)

-- up to the date's string, behind which its bracket is left
pub date_opens : (text q : List ℕ) → BeginsWith 65 text
    → ((h : Grammar) → Leads (seq (tagged (codes "AtUtc")) h) text (the_name (codes "AtUtc") ∷ [])
    (seq (seq string (seq space closing)) h) q) → Goes expires text (the_name (codes "AtUtc") ∷ [])
    (seq string (seq space closing)) q
date_opens text q b l = Goes-trans expires at_utc quoted_rest text text q [] (the_name (codes "AtUtc") ∷ [])
    (expires_date text b) (Goes-from at_utc text (the_name (codes "AtUtc") ∷ []) quoted_rest q l)

pub date_closes : (text q d e : List ℕ) (w : List Word)
    → Goes expires text (the_name (codes "AtUtc") ∷ []) (seq string (seq space closing)) q → Takes string q w d
    → Spaced d e → Goes expires text (the_name (codes "AtUtc") ∷ w) closing e
date_closes text q d e w l t s = Goes-trans expires quoted_rest closing text q e (the_name (codes "AtUtc") ∷ []) w l
    (Goes-part string closing q d e w refl refl t s)

-- the raw cookie's field
pub raw_unread : (text a q behind value : List ℕ) → Takes (heading (codes "raw_cookie")) text
    (the_name (codes "raw_cookie") ∷ []) a → Spaced a q → Takes string q (string_words value) behind
    → ¬ IsCookieText value → Unreads raw_field text q
raw_unread text a q behind value l s t u =
    Unreads-here raw_field text q behind (codes "raw_cookie") value
    (field_opens (codes "raw_cookie") string text a q refl refl l s) t (λ r. u (r.0 refl))

pub raw_taken : (text a q behind value : List ℕ) → Takes (heading (codes "raw_cookie")) text
    (the_name (codes "raw_cookie") ∷ []) a → Spaced a q → Takes string q (string_words value) behind
    → Takes raw_field text (raw_words value) behind
raw_taken text a q behind value l s t = Takes-behind raw_field string text q behind
    (the_name (codes "raw_cookie") ∷ []) (string_words value)
    (field_opens (codes "raw_cookie") string text a q refl refl l s) t

-- ---- a field's value

pub result_field : {A : Type 0} (n : List ℕ) (g : Grammar) (says : A → List Word) (rest_of : A → List ℕ)
    (text a b : List ℕ) (r : Result A Stop) → nullable g ≡ false → IsTrue (solid g)
    → Takes (heading n) text (the_name n ∷ []) a → Spaced a b
    → MatchResult r (λ p. Takes g b (says p) (rest_of p)) (StopsAs g b)
    → MatchResult r (λ p. Takes (field n g) text (the_name n ∷ says p) (rest_of p)) (StopsAs (field n g) text)
result_field n g says rest_of text a b r e t l s m =
    result_map r _ _ _ _ (λ p k. Takes-behind (field n g) g text b (rest_of p) (the_name n ∷ []) (says p)
    (field_opens n g text a b e t l s) k)
    (λ f k. StopsAs-behind (field n g) g text b (the_name n ∷ []) f (field_opens n g text a b e t l s) k) m

-- what is known of a death, behind the name of its field
marks_field : (text b : List ℕ) (date : Option (List ℕ)) (holds : Type 0) (u : Option (Bor (List ℕ)))
    → Goes expires_field text (the_name (codes "expires") ∷ []) expires b
    → Marks expires b (expires_words date) holds u → Marks expires_field text (words_of_date date) holds u
marks_field text b date holds None l m =
    (are_read_both [] [] (the_name (codes "expires") ∷ []) (expires_words date) (date_whole date) tt m.0, m.1)
  where
    date_whole : (d : Option (List ℕ)) → IsWhole (expires_words d)
    date_whole None = tt
    date_whole (Some t) = tt
marks_field text b date holds (Some q) l m = Unreads-behind expires_field expires text b q.now
    (the_name (codes "expires") ∷ []) l tt tt m

pub result_expires : (text a b : List ℕ)
    (r : Result (Option (String Global) × Option (Bor (List ℕ)) × Bor (List ℕ)) Stop)
    → Takes (heading (codes "expires")) text (the_name (codes "expires") ∷ []) a → Spaced a b
    → MatchResult r (λ p. Takes expires b (expires_words (option_map string_bytes p.0)) p.2.now
    × Marks expires b (expires_words (option_map string_bytes p.0)) (HasDeath (option_map string_bytes p.0)) p.1)
    (StopsAs expires b)
    → MatchResult r (λ p. Takes expires_field text (words_of_date (option_map string_bytes p.0)) p.2.now
    × Marks expires_field text (words_of_date (option_map string_bytes p.0))
    (HasDeath (option_map string_bytes p.0)) p.1) (StopsAs expires_field text)
result_expires text a b r l s m =
    let o : Goes expires_field text (the_name (codes "expires") ∷ []) expires b =
    field_opens (codes "expires") expires text a b refl refl l s in
    result_map r _ _ _ _
    (λ p k. (
      Takes-behind expires_field expires text b p.2.now (the_name (codes "expires") ∷ [])
          (expires_words (option_map string_bytes p.0)) o k.0,
      marks_field text b (option_map string_bytes p.0) (HasDeath (option_map string_bytes p.0)) p.1 o k.1,
    ))
    (λ f k. StopsAs-behind expires_field expires text b (the_name (codes "expires") ∷ []) f o k) m

pub StopsAs-raw : (text a q : List ℕ) (e : Stop) → Takes (heading (codes "raw_cookie")) text
    (the_name (codes "raw_cookie") ∷ []) a → Spaced a q → StopsAs string q e → StopsAs raw_field text e
StopsAs-raw text a q e l s t = StopsAs-behind raw_field string text q (the_name (codes "raw_cookie") ∷ []) e
    (field_opens (codes "raw_cookie") string text a q refl refl l s) t

pub date_unread : (text q behind value : List ℕ) → Goes expires text (the_name (codes "AtUtc") ∷ [])
    (seq string (seq space closing)) q → Takes string q (string_words value) behind → ¬ HasDeath (Some value)
    → Unreads expires text q
date_unread text q behind value l t u = Unreads-within expires (seq space closing) text q behind (codes "AtUtc") value
    l t (λ r. u (r.1 refl))

pub session_has_death : HasDeath None
session_has_death = (expiration.SessionEnd, tt)
