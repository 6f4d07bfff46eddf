-- The parts of a row of RON.
use Rattle.std.specs.Prelude.{slice_index, take, drop, Bool, true, false, ◌==◌, IsTrue, codes}
use Rattle.std.proofs.Common.{
  ◌≡◌,
  ℕ,
  zero,
  suc,
  ◌-◌,
  ◌≤◌,
  ◌<◌,
  ◌||◌,
  ◌&&◌,
  not,
  ◌++◌,
  List,
  [],
  ◌∷◌,
  length,
  refl,
  sym,
  ap,
  arith,
  subst,
  Result,
  MatchResult,
  Bor,
  String,
  Global,
  string_bytes,
}
use Rattle.std.proofs.lemmas.List.{append-nil}
use Rattle.std.proofs.lemmas.Bool.{ne_eqb}
use Rattle.saved_text.specs.Grammar.{Grammar, Word}
use Rattle.saved_text.specs.Grammar.Grammar.{nothing, say, space, sign, seq, either}
use Rattle.saved_text.specs.Grammar.Word.{the_name}
use Rattle.saved_text.specs.Letters.{AreSpaces}
use Rattle.saved_text.specs.Reads.{Leads, Takes, Stops}
use Rattle.saved_text.specs.Faults.{StopsAs, BeginsOtherwise, Unspaced, Spaced, BeginsWith, closing}
use Rattle.saved_text.specs.Words.{string_words, tagged}
use Rattle.saved_text.specs.declared.ron_text.Stop.{Stop}
use Rattle.saved_text.specs.Ron.{string, bracketed, domain, name}
use Rattle.saved_text.proofs.StepLemmas.{
  starts,
  nullable,
  none_or,
  none_and,
  misses_seq,
  Misses,
  solid,
  Leads-trans,
  Leads-same,
  Same-sym,
  Same-assoc,
  Same-either,
  Leads-space,
  Leads-unspaced,
  Leads-sign,
  Leads-signed,
  Leads-say,
  Leads-else,
  Leads-nothing,
  Leads-left,
  seq_parts,
  Takes-seq,
}
use Rattle.saved_text.proofs.RonLemmas.{
  Goes,
  Goes-trans,
  Goes-first,
  Goes-left,
  Takes-behind,
  Stops-behind,
  StopsAs-behind,
  StopsAs-first,
  Takes-byte,
  Stops-byte,
  result_map,
}

-- ---- white space between

or_nothing : (a b : Bool) → b ≡ false → a ≡ (a || b)
or_nothing true b e = refl
or_nothing false b e = sym e

starts_solid : (k h : Grammar) → nullable k ≡ false → IsTrue (solid k) → IsTrue (solid (seq k h))
starts_solid k h n s = subst (λ b. IsTrue (not b)) (λ i. same 32 i || (same 9 i || (same 10 i || same 13 i))) s
  where
    same : (c : ℕ) → starts k c ≡ starts (seq k h) c
    same c = or_nothing (starts k c) (nullable k && starts h c) (none_and (nullable k) (starts h c) n)

pub Leads-spaces : (h : Grammar) → IsTrue (solid h) → (p rest : List ℕ) → AreSpaces p → Unspaced rest
    → Leads (seq space h) (p ++ rest) [] h rest
Leads-spaces h s [] rest a u = Leads-unspaced h rest u
Leads-spaces h s (b ∷ p) rest a u = Leads-trans (seq space h) (seq space h) h (b ∷ (p ++ rest)) (p ++ rest) rest [] []
    (Leads-space b h (p ++ rest) a.0 s) (Leads-spaces h s p rest a.1 u)

pub Goes-spaces : (k : Grammar) (text rest : List ℕ) → nullable k ≡ false → IsTrue (solid k) → Spaced text rest
    → Goes (seq space k) text [] k rest
unfolding Goes
Goes-spaces k text rest n s e h =
    Leads-trans (seq (seq space k) h) (seq space (seq k h)) (seq k h) text text rest [] []
    (Leads-same (seq (seq space k) h) (seq space (seq k h)) text (Same-assoc space k h))
    (subst (λ t. Leads (seq space (seq k h)) t [] (seq k h) rest) (sym e.2)
    (Leads-spaces (seq k h) (starts_solid k h n s) e.0 rest e.1 e.3))

-- a part is taken, and the white space behind it
pub Goes-part : (g k : Grammar) (a b c : List ℕ) (s : List Word) → nullable k ≡ false → IsTrue (solid k)
    → Takes g a s b → Spaced b c → Goes (seq g (seq space k)) a s k c
Goes-part g k a b c s n t l e =
    subst (λ w. Goes (seq g (seq space k)) a w k c) (append-nil s)
    (Goes-trans (seq g (seq space k)) (seq space k) k a b c s [] (Goes-first g (seq space k) a b s l)
    (Goes-spaces k b c n t e))

-- ---- words

pub Goes-letter : (b : ℕ) (s text rest : List ℕ) → text ≡ b ∷ rest → Goes (sign (b ∷ s)) text [] (sign s) rest
unfolding Goes
Goes-letter b s text rest e h = subst (λ t. Leads (seq (sign (b ∷ s)) h) t [] (seq (sign s) h) rest) (sym e)
    (Leads-sign b s h rest)

misses_word : (b : ℕ) (s text : List ℕ) → BeginsOtherwise b text → Misses (sign (b ∷ s)) text
misses_word b s [] l = refl
misses_word b s (c ∷ r) l = ne_eqb c b l

pub Takes-nothing : (text : List ℕ) → Takes (sign []) text [] text
Takes-nothing text h = Leads-signed h text

pub Takes-name : (n text rest : List ℕ) → Takes (sign n) text [] rest → Takes (name n) text (the_name n ∷ []) rest
Takes-name n text rest l = Takes-seq (sign n) (say (the_name n)) text rest rest [] (the_name n ∷ []) l
    (λ h. Leads-say (the_name n) h rest)

-- ---- another alternative

pub Goes-else : (a b : Grammar) (text : List ℕ) → nullable a ≡ false → Misses a text → Goes (either a b) text [] b text
unfolding Goes
Goes-else a b text n m h =
    Leads-trans (seq (either a b) h) (either (seq a h) (seq b h)) (seq b h) text text text [] []
    (Leads-same (seq (either a b) h) (either (seq a h) (seq b h)) text (Same-either a b h))
    (Leads-else (seq a h) (seq b h) text (misses_seq a h text n m))

pub Goes-assoc : (a b c : Grammar) (text : List ℕ) → Goes (seq (seq a b) c) text [] (seq a (seq b c)) text
unfolding Goes
Goes-assoc a b c text h =
    Leads-trans (seq (seq (seq a b) c) h) (seq (seq a b) (seq c h)) (seq (seq a (seq b c)) h) text text text [] []
    (Leads-same (seq (seq (seq a b) c) h) (seq (seq a b) (seq c h)) text (Same-assoc (seq a b) c h))
    (Leads-trans (seq (seq a b) (seq c h)) (seq a (seq b (seq c h))) (seq (seq a (seq b c)) h) text text text [] []
    (Leads-same (seq (seq a b) (seq c h)) (seq a (seq b (seq c h))) text (Same-assoc a b (seq c h)))
    (Leads-trans (seq a (seq b (seq c h))) (seq a (seq (seq b c) h)) (seq (seq a (seq b c)) h) text text text [] []
    (Leads-same (seq a (seq b (seq c h))) (seq a (seq (seq b c) h)) text
    (seq_parts a (seq b (seq c h)) (seq (seq b c) h)
    (Same-sym (seq (seq b c) h) (seq b (seq c h)) (Same-assoc b c h))))
    (Leads-same (seq a (seq (seq b c) h)) (seq (seq a (seq b c)) h) text
    (Same-sym (seq (seq a (seq b c)) h) (seq a (seq (seq b c) h)) (Same-assoc a (seq b c) h)))))

-- ---- an optional comma and a bracket

Goes-comma : (r : List ℕ) → Goes closing (44 ∷ r) [] (seq (seq (sign (44 ∷ [])) space) (sign (41 ∷ []))) (44 ∷ r)
unfolding Goes
Goes-comma r h =
    let A : Grammar = seq (sign (44 ∷ [])) space in
    let K : Grammar = seq (sign (41 ∷ [])) h in
    Leads-trans (seq closing h) (seq (either A nothing) K) (seq (seq A (sign (41 ∷ []))) h) (44 ∷ r) (44 ∷ r) (44 ∷ r)
    [] [] (Leads-same (seq closing h) (seq (either A nothing) K) (44 ∷ r)
    (Same-assoc (either A nothing) (sign (41 ∷ [])) h))
    (Leads-trans (seq (either A nothing) K) (either (seq A K) (seq nothing K)) (seq (seq A (sign (41 ∷ []))) h)
    (44 ∷ r) (44 ∷ r) (44 ∷ r) [] []
    (Leads-same (seq (either A nothing) K) (either (seq A K) (seq nothing K)) (44 ∷ r) (Same-either A nothing K))
    (Leads-trans (either (seq A K) (seq nothing K)) (seq A K) (seq (seq A (sign (41 ∷ []))) h) (44 ∷ r) (44 ∷ r)
    (44 ∷ r) [] [] (Leads-left (seq A K) (seq nothing K) 44 r refl)
    (Leads-same (seq A K) (seq (seq A (sign (41 ∷ []))) h) (44 ∷ r)
    (Same-sym (seq (seq A (sign (41 ∷ []))) h) (seq A K) (Same-assoc A (sign (41 ∷ [])) h)))))

Goes-no_comma : (text : List ℕ) → BeginsOtherwise 44 text → Goes closing text [] (sign (41 ∷ [])) text
unfolding Goes
Goes-no_comma text l h =
    let A : Grammar = seq (sign (44 ∷ [])) space in
    let K : Grammar = seq (sign (41 ∷ [])) h in
    Leads-trans (seq closing h) (seq (either A nothing) K) K text text text [] []
    (Leads-same (seq closing h) (seq (either A nothing) K) text (Same-assoc (either A nothing) (sign (41 ∷ [])) h))
    (Leads-trans (seq (either A nothing) K) (either (seq A K) (seq nothing K)) K text text text [] []
    (Leads-same (seq (either A nothing) K) (either (seq A K) (seq nothing K)) text (Same-either A nothing K))
    (Leads-trans (either (seq A K) (seq nothing K)) (seq nothing K) K text text text [] []
    (Leads-else (seq A K) (seq nothing K) text
    (misses_seq A K text refl (misses_seq (sign (44 ∷ [])) space text refl (misses_word 44 [] text l))))
    (Leads-nothing K text)))

Goes-comma_spaces : (text r m : List ℕ) → text ≡ 44 ∷ r → Spaced r m → Goes closing text [] (sign (41 ∷ [])) m
Goes-comma_spaces text r m e s = subst (λ t. Goes closing t [] (sign (41 ∷ [])) m) (sym e)
    (Goes-trans closing (seq (seq (sign (44 ∷ [])) space) (sign (41 ∷ []))) (sign (41 ∷ [])) (44 ∷ r) (44 ∷ r) m [] []
    (Goes-comma r)
    (Goes-trans (seq (seq (sign (44 ∷ [])) space) (sign (41 ∷ [])))
    (seq (sign (44 ∷ [])) (seq space (sign (41 ∷ [])))) (sign (41 ∷ [])) (44 ∷ r) (44 ∷ r) m [] []
    (Goes-assoc (sign (44 ∷ [])) space (sign (41 ∷ [])) (44 ∷ r))
    (Goes-part (sign (44 ∷ [])) (sign (41 ∷ [])) (44 ∷ r) r m [] refl refl (Takes-byte 44 r) s)))

pub Takes-closing_comma : (text r m rest : List ℕ) → text ≡ 44 ∷ r → Spaced r m → m ≡ 41 ∷ rest
    → Takes closing text [] rest
Takes-closing_comma text r m rest e s f = Takes-behind closing (sign (41 ∷ [])) text m rest [] []
    (Goes-comma_spaces text r m e s) (subst (λ t. Takes (sign (41 ∷ [])) t [] rest) (sym f) (Takes-byte 41 rest))

pub Stops-closing_comma : (text r m : List ℕ) → text ≡ 44 ∷ r → Spaced r m → BeginsOtherwise 41 m → Stops closing text m
Stops-closing_comma text r m e s l = Stops-behind closing (sign (41 ∷ [])) text m m []
    (Goes-comma_spaces text r m e s) (Stops-byte 41 m l)

pub Takes-closing : (text rest : List ℕ) → BeginsOtherwise 44 text → text ≡ 41 ∷ rest → Takes closing text [] rest
Takes-closing text rest l e = Takes-behind closing (sign (41 ∷ [])) text text rest [] [] (Goes-no_comma text l)
    (subst (λ t. Takes (sign (41 ∷ [])) t [] rest) (sym e) (Takes-byte 41 rest))

pub Stops-closing : (text : List ℕ) → BeginsOtherwise 44 text → BeginsOtherwise 41 text → Stops closing text text
Stops-closing text l m = Stops-behind closing (sign (41 ∷ [])) text text text [] (Goes-no_comma text l)
    (Stops-byte 41 text m)

-- ---- what the readers of parts answer

pub Takes-cut : (b : ℕ) (text rest : List ℕ) → text ≡ b ∷ rest → Takes (sign (b ∷ [])) text [] rest
Takes-cut b text rest e = subst (λ t. Takes (sign (b ∷ [])) t [] rest) (sym e) (Takes-byte b rest)

pub word_ends : (bytes text : List ℕ) → length bytes < 1 → Takes (sign bytes) text [] text
word_ends [] text l = Takes-nothing text
word_ends (b ∷ s) text l = absurd (omega (arith, l))

pub take_all : (n : ℕ) (s : List ℕ) → length s ≤ n → take n s ≡ s
take_all zero [] l = refl
take_all zero (b ∷ s) l = absurd (omega (arith, l))
take_all (suc n) [] l = refl
take_all (suc n) (b ∷ s) l = ap (λ q. b ∷ q) (take_all n s (omega (arith, l)))

pub word_on : (bytes text rest : List ℕ) → 1 ≤ length bytes → text ≡ slice_index bytes 0 ∷ rest
    → Goes (sign bytes) text [] (sign (take (length bytes - 1) (drop 1 bytes))) rest
word_on [] text rest l e = absurd (omega (arith, l))
word_on (b ∷ s) text rest l e = subst (λ q. Goes (sign (b ∷ s)) text [] (sign q) rest)
    (sym (take_all (suc (length s) - 1) s (omega arith))) (Goes-letter b s text rest e)

-- a step before a text's rest that a call answered
pub result_rest : (g k : Grammar) (text rest : List ℕ) (r : Result (Bor (List ℕ)) Stop) → Goes g text [] k rest
    → MatchResult r (λ p. Takes k rest [] p.now) (StopsAs k rest)
    → MatchResult r (λ p. Takes g text [] p.now) (StopsAs g text)
result_rest g k text rest r s = result_map r _ _ _ _ (λ p l. Takes-behind g k text rest p.now [] [] s l)
    (λ e l. StopsAs-behind g k text rest [] e s l)

-- a string in brackets, up to its string, and behind it
pub bracket_opens : (text a b : List ℕ) → Takes (sign (40 ∷ [])) text [] a → Spaced a b
    → Goes (bracketed string) text [] (seq string (seq space closing)) b
bracket_opens text a b l s = Goes-part (sign (40 ∷ [])) (seq string (seq space closing)) text a b [] refl refl l s

pub bracket_holds : (text a b d e : List ℕ) (w : List Word) → Takes (sign (40 ∷ [])) text [] a → Spaced a b
    → Takes string b w d → Spaced d e → Goes (bracketed string) text w closing e
bracket_holds text a b d e w l s m t = Goes-trans (bracketed string) (seq string (seq space closing)) closing text b e
    [] w (bracket_opens text a b l s) (Goes-part string closing b d e w refl refl m t)

pub Takes-bracketed : (text a b d e rest : List ℕ) (w : List Word) → Takes (sign (40 ∷ [])) text [] a → Spaced a b
    → Takes string b w d → Spaced d e → Takes closing e [] rest → Takes (bracketed string) text w rest
Takes-bracketed text a b d e rest w l s m t n = subst (λ v. Takes (bracketed string) text v rest) (append-nil w)
    (Takes-behind (bracketed string) closing text e rest w [] (bracket_holds text a b d e w l s m t) n)

pub StopsAs-bracket : (text : List ℕ) (e : Stop) → StopsAs (sign (40 ∷ [])) text e → StopsAs (bracketed string) text e
StopsAs-bracket text e l = StopsAs-first (sign (40 ∷ [])) (seq space (seq string (seq space closing))) text e l

pub StopsAs-in_bracket : (text a b : List ℕ) (e : Stop) → Takes (sign (40 ∷ [])) text [] a → Spaced a b
    → StopsAs string b e → StopsAs (bracketed string) text e
StopsAs-in_bracket text a b e l s m = StopsAs-behind (bracketed string) (seq string (seq space closing)) text b [] e
    (bracket_opens text a b l s) (StopsAs-first string (seq space closing) b e m)

pub StopsAs-closing : (text a b d e : List ℕ) (w : List Word) (f : Stop) → Takes (sign (40 ∷ [])) text [] a
    → Spaced a b → Takes string b w d → Spaced d e → StopsAs closing e f → StopsAs (bracketed string) text f
StopsAs-closing text a b d e w f l s m t n = StopsAs-behind (bracketed string) closing text e w f
    (bracket_holds text a b d e w l s m t) n

-- a name and a string in brackets
pub tag_said : (n text a b : List ℕ) → Takes (sign n) text [] a → Spaced a b
    → Goes (tagged n) text (the_name n ∷ []) (bracketed string) b
tag_said n text a b l s = Goes-part (name n) (bracketed string) text a b (the_name n ∷ []) refl refl
    (Takes-name n text a l) s

pub StopsAs-tag : (n text : List ℕ) (e : Stop) → StopsAs (sign n) text e → StopsAs (tagged n) text e
StopsAs-tag n text e l = StopsAs-first (name n) (seq space (bracketed string)) text e
    (StopsAs-first (sign n) (say (the_name n)) text e l)

pub result_tagged : (n text a b : List ℕ) (r : Result (String Global × Bor (List ℕ)) Stop) → Takes (sign n) text [] a
    → Spaced a b
    → MatchResult r (λ p. Takes (bracketed string) b (string_words (string_bytes p.0)) p.1.now)
    (StopsAs (bracketed string) b)
    → MatchResult r (λ p. Takes (tagged n) text (the_name n ∷ string_words (string_bytes p.0)) p.1.now)
    (StopsAs (tagged n) text)
result_tagged n text a b r l s = result_map r _ _ _ _
    (λ p m. Takes-behind (tagged n) (bracketed string) text b p.1.now (the_name n ∷ [])
    (string_words (string_bytes p.0)) (tag_said n text a b l s) m)
    (λ e m. StopsAs-behind (tagged n) (bracketed string) text b (the_name n ∷ []) e (tag_said n text a b l s) m)

-- ---- the choices of a domain

abbrev host_only : Grammar
host_only = tagged (codes "HostOnly")

abbrev suffix : Grammar
suffix = tagged (codes "Suffix")

abbrev not_present : Grammar
not_present = name (codes "NotPresent")

abbrev empty : Grammar
empty = name (codes "Empty")

pub domain_host : (text : List ℕ) → BeginsWith 72 text → Goes domain text [] host_only text
domain_host text b = subst (λ t. Goes domain t [] host_only t) (sym b.1)
    (Goes-left host_only (either suffix (either not_present empty)) 72 b.0 refl refl)

pub lacks_tag : (b : ℕ) (s : List ℕ) (text : List ℕ) → BeginsOtherwise b text → Misses (tagged (b ∷ s)) text
lacks_tag b s [] l = refl
lacks_tag b s (c ∷ r) l = none_or ((c == b) || false) false (none_or (c == b) false (ne_eqb c b l) refl) refl

pub lacks_name : (b : ℕ) (s : List ℕ) (text : List ℕ) → BeginsOtherwise b text → Misses (name (b ∷ s)) text
lacks_name b s [] l = refl
lacks_name b s (c ∷ r) l = none_or (c == b) false (ne_eqb c b l) refl

domain_other : (text : List ℕ) → BeginsOtherwise 72 text
    → Goes domain text [] (either suffix (either not_present empty)) text
domain_other text l = Goes-else host_only (either suffix (either not_present empty)) text refl
    (lacks_tag 72 (codes "ostOnly") text l)

pub domain_suffix : (text : List ℕ) → BeginsOtherwise 72 text → BeginsWith 83 text → Goes domain text [] suffix text
domain_suffix text l b = Goes-trans domain (either suffix (either not_present empty)) suffix text text text [] []
    (domain_other text l)
    (subst (λ t. Goes (either suffix (either not_present empty)) t [] suffix t) (sym b.1)
    (Goes-left suffix (either not_present empty) 83 b.0 refl refl))

domain_word : (text : List ℕ) → BeginsOtherwise 72 text → BeginsOtherwise 83 text
    → Goes domain text [] (either not_present empty) text
domain_word text l m = Goes-trans domain (either suffix (either not_present empty)) (either not_present empty) text
    text text [] [] (domain_other text l)
    (Goes-else suffix (either not_present empty) text refl (lacks_tag 83 (codes "uffix") text m))

pub domain_not_present : (text : List ℕ) → BeginsOtherwise 72 text → BeginsOtherwise 83 text → BeginsWith 78 text
    → Goes domain text [] not_present text
domain_not_present text l m b = Goes-trans domain (either not_present empty) not_present text text text [] []
    (domain_word text l m)
    (subst (λ t. Goes (either not_present empty) t [] not_present t) (sym b.1)
    (Goes-left not_present empty 78 b.0 refl refl))

pub domain_empty : (text : List ℕ) → BeginsOtherwise 72 text → BeginsOtherwise 83 text → BeginsOtherwise 78 text
    → Goes domain text [] empty text
domain_empty text l m n = Goes-trans domain (either not_present empty) empty text text text [] []
    (domain_word text l m) (Goes-else not_present empty text refl (lacks_name 78 (codes "otPresent") text n))

pub Takes-choice : (g : Grammar) (text rest : List ℕ) (s : List Word) → Goes domain text [] g text
    → Takes g text s rest → Takes domain text s rest
Takes-choice g text rest s e l = Takes-behind domain g text text rest [] s e l

pub StopsAs-choice : (g : Grammar) (text : List ℕ) (e : Stop) → Goes domain text [] g text → StopsAs g text e
    → StopsAs domain text e
StopsAs-choice g text e f l = StopsAs-behind domain g text text [] e f l

pub StopsAs-name : (n text : List ℕ) (e : Stop) → StopsAs (sign n) text e → StopsAs (name n) text e
StopsAs-name n text e l = StopsAs-first (sign n) (say (the_name n)) text e l
