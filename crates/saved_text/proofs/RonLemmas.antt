-- The parts of a string of RON.
use Rattle.std.specs.Prelude.{◌⊎◌, Bool, true, false, ◌==◌, IsTrue, encode_utf8, ◌≢◌}
use Rattle.std.proofs.Common.{
  ◌≡◌,
  ℕ,
  zero,
  suc,
  ◌+◌,
  ◌-◌,
  ◌*◌,
  ◌≤◌,
  ◌<◌,
  ◌&&◌,
  not,
  ◌++◌,
  List,
  [],
  ◌∷◌,
  length,
  refl,
  sym,
  ap,
  ◌∙◌,
  arith,
  inl,
  inr,
  MatchResult,
  Result,
  Ok,
  Err,
  Bor,
  Option,
  Some,
  None,
  append_assoc,
  length-append,
  subst,
}
use Rattle.std.proofs.lemmas.List.{append-nil, map-append}
use Rattle.std.specs.List.{AllByRecursion}
use Rattle.std.specs.Char.{IsScalar}
use lib.Utf8.{scalar}
use Rattle.std.specs.Str.{IsUtf8, IsCharBoundary}
use Rattle.std.proofs.lemmas.Str.{IsCharBoundary-after_ascii, encode_ascii}
use Rattle.std.specs.Option.{SomeIff, is_some}
use Rattle.std.proofs.lemmas.Bool.{false≢true, agree_below_at, ne_eqb}
use Rattle.saved_text.specs.Grammar.{Grammar, Word, IsFront, letters}
use Rattle.saved_text.specs.Grammar.Grammar.{nothing, say, sign, one, number, seq, either, many}
use Rattle.saved_text.specs.Grammar.Word.{the_end, letter}
use Rattle.saved_text.specs.Letters.{is_digit, is_plain, is_letter, named, digit_value, number_after, AreDigits, limit}
use Rattle.saved_text.specs.Reads.{Leads, Stuck, Takes, Stops}
use Rattle.saved_text.specs.Faults.{StopsAs, Undigited, Unplain, Unlettered, IsEnd, Number, BeginsOtherwise}
use Rattle.saved_text.specs.Faults.{BeginsAscii}
use Rattle.saved_text.specs.declared.ron_text.Stop.{Stop}
use Rattle.saved_text.specs.declared.ron_text.Stop.TheVariants as stop
use Rattle.saved_text.specs.Ron.{string, character, escape}
use Rattle.saved_text.proofs.StepLemmas.{
  front_of_whole,
  starts_front,
  starts,
  nullable,
  no_cell,
  head_same,
  end_digits,
  front_short,
  next_value,
  none_and,
  misses_seq,
  Same-either,
  Same-unfold,
  Same-refl,
  not_false,
  none_or,
  Leads-trans,
  Stuck-behind,
  Leads-same,
  Same,
  Same-sym,
  Same-assoc,
  Leads-digit,
  Leads-numbered,
  Leads-sign,
  Leads-signed,
  Leads-say,
  Leads-one,
  Stops-at,
  Misses,
  Takes-seq,
  Stops-first,
  Stops-second,
  Takes-left,
  Leads-left,
  Leads-right,
}

-- ---- where a number ends

pub Stuck-surrogate : (high v : ℕ) (h : Grammar) (r : List ℕ) → ¬ IsScalar v → IsEnd high r
    → Stuck (seq (number 0 high v) h) r r
Stuck-surrogate high v h r n end = record {
  x = [];
  split = refl;
  front = inl (inl refl);
  none = λ w o. n (subst (λ q. IsScalar (number_after v q))
      (end_digits high r end r [] (sym (append-nil r)) o.0 o.1 o.4.0 o.4.2 o.6) o.4.3);
  far = λ b y z e f. elim f [
    | inl k ↦ elim k [
      | inl m ↦ no_cell b y m
      | inr p ↦ no_cell b y (end_digits high r end (b ∷ y) z e (b ∷ y) [] p.0 (front_short high v (b ∷ y) p.1)
          (sym (append-nil (b ∷ y))))
    ]
    | inr p ↦ n (subst (λ q. IsScalar (number_after v q)) (end_digits high r end (b ∷ y) z e p.0 p.1 p.3.0 p.3.2 p.5)
        p.3.3)
  ];
}

short_number : (v d : ℕ) (x y r : List ℕ) → AreDigits x → length x ≤ 1 → IsScalar (number_after v x)
    → ¬ IsScalar (next_value v d) → d ∷ r ≡ x ++ y → x ≡ []
short_number v d [] y r a l s n e = refl
short_number v d (b ∷ []) y r a l s n e = absurd
    (n (subst (λ k. IsScalar (next_value v k)) (sym (head_same d b r y e)) s))
short_number v d (b ∷ c ∷ x) y r a l s n e = absurd (omega (arith, l))

no_room : (v d : ℕ) (y : List ℕ) → ((suc (length y) < 1) ⊎ ((suc (length y) ≡ 1) × IsScalar (number_after v (d ∷ y))))
    → IsScalar (next_value v d)
no_room v d [] (inl l) = absurd (omega (arith, l))
no_room v d [] (inr m) = m.1
no_room v d (c ∷ y) (inl l) = absurd (omega (arith, l))
no_room v d (c ∷ y) (inr m) = absurd (omega (arith, m.0))

-- the last digit would make a number that no character has
pub Stuck-last : (v d : ℕ) (h : Grammar) (r : List ℕ) → ¬ IsScalar (next_value v d) → starts h d ≡ false
    → Stuck (seq (number 0 1 v) h) (d ∷ r) (d ∷ r)
Stuck-last v d h r n free = record {
  x = [];
  split = refl;
  front = inl (inl refl);
  none = λ w o.
      let e = short_number v d o.0 o.1 r o.4.0 o.4.2 o.4.3 n o.6 in
      false≢true (sym free ∙ starts_front h d r
      (subst (IsFront h) (sym (o.6 ∙ ap (λ q. q ++ o.1) e)) (front_of_whole h o.1 o.3 o.5)));
  far = λ b y z e f.
      let same : b ≡ d = sym (head_same d b r (y ++ z) e) in
      elim f [
        | inl k ↦ elim k [
          | inl m ↦ no_cell b y m
          | inr p ↦ n (subst (λ q. IsScalar (next_value v q)) same (no_room v b y p.1))
        ]
        | inr p ↦
            let none = short_number v b p.0 p.1 y p.3.0 p.3.2 p.3.3
            (subst (λ q. ¬ IsScalar (next_value v q)) (sym same) n) p.5 in
            false≢true (sym free ∙ ap (starts h) (sym same) ∙ starts_front h b y
            (subst (IsFront h) (sym (p.5 ∙ ap (λ q. q ++ p.1) none)) p.4))
      ];
}

-- ---- limits

pub limit_bound : (n : ℕ) → limit n ≤ 0x1000000
limit_bound zero = omega arith
limit_bound (suc n) = let h = limit_bound n in omega (arith, h)

-- ---- two digits

low_scalar : (n : ℕ) → n < 256 → IsScalar n
low_scalar n h = agree_below_at scalar (λ k. true) 256 n refl h

first_value : (d : ℕ) → next_value 0 d ≡ digit_value d
first_value d = omega arith

pub Takes-two : (a b : ℕ) (r : List ℕ) → IsTrue (is_digit a) → IsTrue (is_digit b) → digit_value a < 16
    → digit_value b < 16 → Takes (number 2 2 0) (a ∷ b ∷ r)
    (letters (encode_utf8 (digit_value a * 16 + digit_value b))) r
Takes-two a b r s t u v h =
    let small : next_value (digit_value a) b < 256 = omega (arith, u, v) in
    let first : Leads (seq (number 2 2 0) h) (a ∷ b ∷ r) [] (seq (number 1 1 (digit_value a)) h) (b ∷ r) =
    subst (λ n. Leads (seq (number 2 2 0) h) (a ∷ b ∷ r) [] (seq (number 1 1 n) h) (b ∷ r)) (first_value a)
    (Leads-digit 2 1 0 a h (b ∷ r) s (λ e. absurd (omega (arith, e))) (inl (omega arith))) in
    let second : Leads (seq (number 1 1 (digit_value a)) h) (b ∷ r) []
    (seq (number 0 0 (next_value (digit_value a) b)) h) r =
    Leads-digit 1 0 (digit_value a) b h r t (λ e. absurd (omega (arith, e)))
    (inr (low_scalar (next_value (digit_value a) b) small)) in
    let third : Leads (seq (number 0 0 (next_value (digit_value a) b)) h) r
    (letters (encode_utf8 (next_value (digit_value a) b))) h r =
    Leads-numbered 0 (next_value (digit_value a) b) h r (low_scalar (next_value (digit_value a) b) small)
    (inl refl) in
    Leads-trans _ _ _ _ _ _ _ _ first (Leads-trans _ _ _ _ _ _ _ _ second third)

misses_digit : (high v : ℕ) (low : ℕ) (r : List ℕ) → Undigited r → Misses (number (suc low) high v) r
misses_digit high v low [] u = refl
misses_digit high v low (c ∷ r) u = u

pub Stops-undigited : (low high v : ℕ) (r : List ℕ) → Undigited r → Stops (number (suc low) high v) r r
Stops-undigited low high v r u = Stops-at (number (suc low) high v) r refl (misses_digit high v low r u)

pub Stops-two : (a : ℕ) (r : List ℕ) → IsTrue (is_digit a) → Undigited r → Stops (number 2 2 0) (a ∷ r) r
Stops-two a r s u h =
    Stuck-behind _ _ _ _ _ _ (Leads-digit 2 1 0 a h r s (λ e. absurd (omega (arith, e))) (inl (omega arith)))
    (Stops-undigited 0 1 (0 * 16 + digit_value a) r u h)

-- ---- steps of any grammar

-- Behind a front that says s the grammar k is left.
unfoldable pub Goes : Grammar → List ℕ → List Word → Grammar → List ℕ → Type 0
Goes g text s k rest = (h : Grammar) → Leads (seq g h) text s (seq k h) rest

pub Goes-from : (g : Grammar) (text : List ℕ) (s : List Word) (k : Grammar) (rest : List ℕ)
    → ((h : Grammar) → Leads (seq g h) text s (seq k h) rest) → Goes g text s k rest
unfolding Goes
Goes-from g text s k rest l = l

pub Goes-trans : (g k m : Grammar) (a b c : List ℕ) (s t : List Word) → Goes g a s k b → Goes k b t m c
    → Goes g a (s ++ t) m c
unfolding Goes
Goes-trans g k m a b c s t l n h = Leads-trans (seq g h) (seq k h) (seq m h) a b c s t (l h) (n h)

pub Takes-behind : (g k : Grammar) (text rest next : List ℕ) (s t : List Word) → Goes g text s k rest
    → Takes k rest t next → Takes g text (s ++ t) next
unfolding Goes
Takes-behind g k text rest next s t e l h = Leads-trans (seq g h) (seq k h) h text rest next s t (e h) (l h)

pub Stops-behind : (g k : Grammar) (text rest next : List ℕ) (s : List Word) → Goes g text s k rest
    → Stops k rest next → Stops g text next
unfolding Goes
Stops-behind g k text rest next s e l h = Stuck-behind (seq g h) (seq k h) text rest next s (e h) (l h)

pub StopsAs-behind : (g k : Grammar) (text rest : List ℕ) (s : List Word) (e : Stop) → Goes g text s k rest
    → StopsAs k rest e → StopsAs g text e
StopsAs-behind g k text rest s (stop.Here next) e l = Stops-behind g k text rest next.now s e l
StopsAs-behind g k text rest s stop.OutOfMemory e l = tt

pub StopsAs-first : (g k : Grammar) (text : List ℕ) (e : Stop) → StopsAs g text e → StopsAs (seq g k) text e
StopsAs-first g k text (stop.Here next) l = Stops-first g k text next.now l
StopsAs-first g k text stop.OutOfMemory l = tt

pub Goes-same : (g k : Grammar) (text : List ℕ) → ((h : Grammar) → Same (seq g h) (seq k h)) → Goes g text [] k text
Goes-same g k text e = Goes-from g text [] k text (λ h. Leads-same (seq g h) (seq k h) text (e h))

-- the first part is taken
pub Goes-first : (g k : Grammar) (a b : List ℕ) (s : List Word) → Takes g a s b → Goes (seq g k) a s k b
Goes-first g k a b s l = Goes-from (seq g k) a s k b
    (λ h. Leads-trans (seq (seq g k) h) (seq g (seq k h)) (seq k h) a a b [] s
    (Leads-same (seq (seq g k) h) (seq g (seq k h)) a (Same-assoc g k h)) (l (seq k h)))

pub Goes-left : (a b : Grammar) (c : ℕ) (r : List ℕ) → nullable b ≡ false → starts b c ≡ false
    → Goes (either a b) (c ∷ r) [] a (c ∷ r)
Goes-left a b c r n m = Goes-from (either a b) (c ∷ r) [] a (c ∷ r) (λ h.
    Leads-trans (seq (either a b) h) (either (seq a h) (seq b h)) (seq a h) (c ∷ r) (c ∷ r) (c ∷ r) [] []
    (Leads-same (seq (either a b) h) (either (seq a h) (seq b h)) (c ∷ r) (Same-either a b h))
    (Leads-left (seq a h) (seq b h) c r (misses_seq b h (c ∷ r) n m)))

pub Goes-right : (a b : Grammar) (c : ℕ) (r : List ℕ) → nullable a ≡ false → starts a c ≡ false
    → Goes (either a b) (c ∷ r) [] b (c ∷ r)
Goes-right a b c r n m = Goes-from (either a b) (c ∷ r) [] b (c ∷ r) (λ h.
    Leads-trans (seq (either a b) h) (either (seq a h) (seq b h)) (seq b h) (c ∷ r) (c ∷ r) (c ∷ r) [] []
    (Leads-same (seq (either a b) h) (either (seq a h) (seq b h)) (c ∷ r) (Same-either a b h))
    (Leads-right (seq a h) (seq b h) c r (misses_seq a h (c ∷ r) n m)))

-- two steps of the first part, the second to a grammar of its own
pub Goes-under : (g k a b : Grammar) (text rest : List ℕ) → Goes g text [] a text → Goes a text [] b rest
    → Goes (seq g k) text [] (seq b k) rest
unfolding Goes
Goes-under g k a b text rest e f h =
    Leads-trans (seq (seq g k) h) (seq g (seq k h)) (seq (seq b k) h) text text rest [] []
    (Leads-same (seq (seq g k) h) (seq g (seq k h)) text (Same-assoc g k h))
    (Leads-trans (seq g (seq k h)) (seq a (seq k h)) (seq (seq b k) h) text text rest [] [] (e (seq k h))
    (Leads-trans (seq a (seq k h)) (seq b (seq k h)) (seq (seq b k) h) text rest rest [] [] (f (seq k h))
    (Leads-same (seq b (seq k h)) (seq (seq b k) h) rest
    (Same-sym (seq (seq b k) h) (seq b (seq k h)) (Same-assoc b k h)))))

-- one more, or what is behind them all
Goes-many : (g k : Grammar) (text : List ℕ) → Goes (seq (many g) k) text [] (either (seq g (seq (many g) k)) k) text
Goes-many g k text = Goes-same (seq (many g) k) (either (seq g (seq (many g) k)) k) text (λ h. Same-unfold g k h)

pub Goes-again : (g k : Grammar) (c : ℕ) (r mid : List ℕ) (s : List Word) → nullable k ≡ false → starts k c ≡ false
    → Takes g (c ∷ r) s mid → Goes (seq (many g) k) (c ∷ r) s (seq (many g) k) mid
Goes-again g k c r mid s n m l =
    Goes-trans (seq (many g) k) (either (seq g (seq (many g) k)) k) (seq (many g) k) (c ∷ r) (c ∷ r) mid [] s
    (Goes-many g k (c ∷ r))
    (Goes-trans (either (seq g (seq (many g) k)) k) (seq g (seq (many g) k)) (seq (many g) k) (c ∷ r) (c ∷ r) mid [] s
    (Goes-left (seq g (seq (many g) k)) k c r n m) (Goes-first g (seq (many g) k) (c ∷ r) mid s l))

-- into one more
pub Goes-into : (g k : Grammar) (c : ℕ) (r : List ℕ) → nullable k ≡ false → starts k c ≡ false
    → Goes (seq (many g) k) (c ∷ r) [] (seq g (seq (many g) k)) (c ∷ r)
Goes-into g k c r n m =
    Goes-trans (seq (many g) k) (either (seq g (seq (many g) k)) k) (seq g (seq (many g) k)) (c ∷ r) (c ∷ r) (c ∷ r)
    [] [] (Goes-many g k (c ∷ r)) (Goes-left (seq g (seq (many g) k)) k c r n m)

pub Goes-enough : (g k : Grammar) (c : ℕ) (r : List ℕ) → nullable g ≡ false → starts g c ≡ false
    → Goes (seq (many g) k) (c ∷ r) [] k (c ∷ r)
Goes-enough g k c r n m =
    Goes-trans (seq (many g) k) (either (seq g (seq (many g) k)) k) k (c ∷ r) (c ∷ r) (c ∷ r) [] []
    (Goes-many g k (c ∷ r))
    (Goes-right (seq g (seq (many g) k)) k c r (none_and (nullable g) (nullable (seq (many g) k)) n)
    (misses_seq g (seq (many g) k) (c ∷ r) n m))

pub Takes-byte : (b : ℕ) (rest : List ℕ) → Takes (sign (b ∷ [])) (b ∷ rest) [] rest
Takes-byte b rest h = Leads-trans (seq (sign (b ∷ [])) h) (seq (sign []) h) h (b ∷ rest) rest rest [] []
    (Leads-sign b [] h rest) (Leads-signed h rest)

-- ---- a number and its brace

no_brace : (d : ℕ) (h : Grammar) → IsTrue (is_digit d) → starts (seq (sign (125 ∷ [])) h) d ≡ false
no_brace d h t = none_or (d == 125) false (ne_eqb d 125 (λ e. false≢true (ap is_digit (sym e) ∙ t))) refl

pub more_step : (left n v : ℕ) (text rest : List ℕ) (d value : ℕ) → left ≡ suc n → text ≡ d ∷ rest
    → IsTrue (is_digit d) → value ≡ digit_value d → (0 < n) ⊎ IsScalar (v * 16 + value)
    → Goes (Number left v) text [] (Number (left - 1) (v * 16 + value)) rest
unfolding Goes
more_step left n v text rest d value long split t is room h =
    let same : v * 16 + value ≡ next_value v d = ap (λ k. v * 16 + k) is in
    let less : n ≡ left - 1 = omega (arith, long) in
    let scalar_too : (0 < n) ⊎ IsScalar (next_value v d) = subst (λ k. (0 < n) ⊎ IsScalar k) same room in
    let digit : Leads (seq (number 0 (suc n) v) (seq (sign (125 ∷ [])) h)) (d ∷ rest) []
    (seq (number 0 n (next_value v d)) (seq (sign (125 ∷ [])) h)) rest =
    Leads-digit 0 n v d (seq (sign (125 ∷ [])) h) rest t (λ e. no_brace d h t) scalar_too in
    let moved : Leads (seq (Number (suc n) v) h) (d ∷ rest) [] (seq (Number n (next_value v d)) h) rest =
    Leads-trans (seq (Number (suc n) v) h) (seq (number 0 (suc n) v) (seq (sign (125 ∷ [])) h))
    (seq (Number n (next_value v d)) h) (d ∷ rest) (d ∷ rest) rest [] []
    (Leads-same (seq (Number (suc n) v) h) (seq (number 0 (suc n) v) (seq (sign (125 ∷ [])) h)) (d ∷ rest)
    (Same-assoc (number 0 (suc n) v) (sign (125 ∷ [])) h))
    (Leads-trans (seq (number 0 (suc n) v) (seq (sign (125 ∷ [])) h))
    (seq (number 0 n (next_value v d)) (seq (sign (125 ∷ [])) h)) (seq (Number n (next_value v d)) h) (d ∷ rest)
    rest rest [] [] digit
    (Leads-same (seq (number 0 n (next_value v d)) (seq (sign (125 ∷ [])) h)) (seq (Number n (next_value v d)) h) rest
    (Same-sym (seq (Number n (next_value v d)) h) (seq (number 0 n (next_value v d)) (seq (sign (125 ∷ [])) h))
    (Same-assoc (number 0 n (next_value v d)) (sign (125 ∷ [])) h)))) in
    subst (λ a. Leads (seq (Number a v) h) text [] (seq (Number (left - 1) (v * 16 + value)) h) rest) (sym long)
    (subst (λ a. Leads (seq (Number (suc n) v) h) a [] (seq (Number (left - 1) (v * 16 + value)) h) rest) (sym split)
    (subst (λ a. Leads (seq (Number (suc n) v) h) (d ∷ rest) [] (seq (Number a (v * 16 + value)) h) rest) less
    (subst (λ a. Leads (seq (Number (suc n) v) h) (d ∷ rest) [] (seq (Number n a) h) rest) (sym same) moved)))

pub Takes-brace : (left v : ℕ) (rest : List ℕ) → IsScalar v → IsEnd left (125 ∷ rest)
    → Takes (Number left v) (125 ∷ rest) (letters (encode_utf8 v)) rest
Takes-brace left v rest s e =
    subst (λ w. Takes (Number left v) (125 ∷ rest) w rest) (append-nil (letters (encode_utf8 v)))
    (Takes-seq (number 0 left v) (sign (125 ∷ [])) (125 ∷ rest) (125 ∷ rest) rest (letters (encode_utf8 v)) []
    (λ h. Leads-numbered left v h (125 ∷ rest) s e)
    (Takes-byte 125 rest))

misses_byte : (b : ℕ) (text : List ℕ) → BeginsOtherwise b text → Misses (sign (b ∷ [])) text
misses_byte b [] l = refl
misses_byte b (c ∷ r) l = ne_eqb c b l

pub Stops-byte : (b : ℕ) (text : List ℕ) → BeginsOtherwise b text → Stops (sign (b ∷ [])) text text
Stops-byte b text l = Stops-at (sign (b ∷ [])) text refl (misses_byte b text l)

pub Stops-brace : (left v : ℕ) (text : List ℕ) → IsScalar v → IsEnd left text → BeginsOtherwise 125 text
    → Stops (Number left v) text text
Stops-brace left v text s e l =
    Stops-second (number 0 left v) (sign (125 ∷ [])) text text text (letters (encode_utf8 v))
    (λ h. Leads-numbered left v h text s e) (Stops-byte 125 text l)

pub Stops-surrogate : (left v : ℕ) (text : List ℕ) → ¬ IsScalar v → IsEnd left text → Stops (Number left v) text text
Stops-surrogate left v text n e = Stops-first (number 0 left v) (sign (125 ∷ [])) text text
    (λ h. Stuck-surrogate left v h text n e)

pub Stops-last : (left v : ℕ) (text rest : List ℕ) (d value : ℕ) → left ≡ 1 → text ≡ d ∷ rest → IsTrue (is_digit d)
    → value ≡ digit_value d → ¬ IsScalar (v * 16 + value) → Stops (Number left v) text text
Stops-last left v text rest d value long split t is n =
    let not_next : ¬ IsScalar (next_value v d) = subst (λ k. ¬ IsScalar k) (ap (λ k. v * 16 + k) is) n in
    let here : Stops (Number 1 v) (d ∷ rest) (d ∷ rest) =
    λ h. Stuck-behind (seq (Number 1 v) h) (seq (number 0 1 v) (seq (sign (125 ∷ [])) h)) (d ∷ rest) (d ∷ rest)
    (d ∷ rest) [] (Leads-same (seq (Number 1 v) h) (seq (number 0 1 v) (seq (sign (125 ∷ [])) h)) (d ∷ rest)
    (Same-assoc (number 0 1 v) (sign (125 ∷ [])) h))
    (Stuck-last v d (seq (sign (125 ∷ [])) h) rest not_next (no_brace d h t)) in
    subst (λ a. Stops (Number a v) text text) (sym long) (subst (λ a. Stops (Number 1 v) a a) (sym split) here)

pub ascii_first : (text : List ℕ) → BeginsAscii text → IsUtf8 text → IsCharBoundary text 1
ascii_first [] b u = absurd b
ascii_first (c ∷ r) b u = IsCharBoundary-after_ascii (c ∷ r) 0 u (omega arith) b

pub Takes-closed : (left v c : ℕ) (text rest : List ℕ) → IsScalar v × (c ≡ v) → IsEnd left text → text ≡ 125 ∷ rest
    → Takes (Number left v) text (letters (encode_utf8 c)) rest
Takes-closed left v c text rest s e p =
    subst (λ a. Takes (Number left v) text (letters (encode_utf8 a)) rest) (sym s.1)
    (subst (λ a. Takes (Number left v) a (letters (encode_utf8 v)) rest) (sym p)
    (Takes-brace left v rest s.0 (subst (IsEnd left) p e)))

-- what is known of a digit at the front
abbrev pub IsDigit : List ℕ → List ℕ → ℕ → Type 0
IsDigit text rest value = (d : ℕ) × (text ≡ d ∷ rest) × IsTrue (is_digit d) × (value ≡ digit_value d) × (value < 16)

pub Stops-second_digit : (text rest : List ℕ) (value : ℕ) → IsDigit text rest value → Undigited rest
    → Stops (number 2 2 0) text rest
Stops-second_digit text rest value d u = subst (λ a. Stops (number 2 2 0) a rest) (sym d.1) (Stops-two d.0 rest d.2 u)

pub Takes-two_digits : (text rest next : List ℕ) (high low c : ℕ) → IsDigit text rest high → IsDigit rest next low
    → c ≡ high * 16 + low → Takes (number 2 2 0) text (letters (encode_utf8 c)) next
Takes-two_digits text rest next high low c a b e =
    let split : text ≡ a.0 ∷ b.0 ∷ next = a.1 ∙ ap (λ r. a.0 ∷ r) b.1 in
    let value : c ≡ digit_value a.0 * 16 + digit_value b.0 = e ∙ (λ i. a.3 i * 16 + b.3 i) in
    let first : digit_value a.0 < 16 = omega (arith, a.3, a.4) in
    let second : digit_value b.0 < 16 = omega (arith, b.3, b.4) in
    subst (λ t. Takes (number 2 2 0) t (letters (encode_utf8 c)) next) (sym split)
    (subst (λ n. Takes (number 2 2 0) (a.0 ∷ b.0 ∷ next) (letters (encode_utf8 n)) next) (sym value)
    (Takes-two a.0 b.0 next a.2 b.2 first second))

-- ---- what calls answered

pub result_map : {A B : Type 0} (r : Result A B) (P Q : A → Type 0) (R S : B → Type 0) → ((x : A) → P x → Q x)
    → ((e : B) → R e → S e) → MatchResult r P R → MatchResult r Q S
result_map (Ok x) P Q R S f g m = f x m
result_map (Err e) P Q R S f g m = g e m

-- a step before what a call answered
pub result_step : {V : Type 0} (says : V → List Word) (g k : Grammar) (text rest : List ℕ)
    (r : Result (V × Bor (List ℕ)) Stop) → Goes g text [] k rest
    → MatchResult r (λ p. Takes k rest (says p.0) p.1.now) (StopsAs k rest)
    → MatchResult r (λ p. Takes g text (says p.0) p.1.now) (StopsAs g text)
result_step says g k text rest r s = result_map r _ _ _ _
    (λ p l. Takes-behind g k text rest p.1.now [] (says p.0) s l) (λ e l. StopsAs-behind g k text rest [] e s l)

-- ---- digits and a brace

brace : Grammar
brace = sign (125 ∷ [])

pub none_scalar : (r : Option ℕ) (P : Type 0) (v : ℕ) → SomeIff r P v → is_some r ≡ false → ¬ P
none_scalar None P v n e = n
none_scalar (Some x) P v n e = absurd (false≢true (sym e))

pub some_scalar : (r : Option ℕ) (P : Type 0) (v : ℕ) → SomeIff r P v → is_some r ≡ true → P
some_scalar None P v n e = absurd (false≢true e)
some_scalar (Some x) P v n e = n.0

pub Stops-last_digit : (left v : ℕ) (text rest : List ℕ) (value : ℕ) → left ≡ 1 → IsDigit text rest value
    → ¬ IsScalar (v * 16 + value) → Stops (Number left v) text text
Stops-last_digit left v text rest value e d n = Stops-last left v text rest d.0 value e d.1 d.2 d.3 n

pub Goes-digit : (left v : ℕ) (text rest : List ℕ) (value : ℕ) → (left ≡ 0 → ⊥) → IsDigit text rest value
    → (1 < left) ⊎ IsScalar (v * 16 + value) → Goes (Number left v) text [] (Number (left - 1) (v * 16 + value)) rest
Goes-digit left v text rest value e d room =
    more_step left (left - 1) v text rest d.0 value (omega (arith, e)) d.1 d.2 d.3
    (elim room [ inl l ↦ inl (omega (arith, l)) | inr s ↦ inr s ])

pub Goes-first_digit : (text rest : List ℕ) (value : ℕ) → IsDigit text rest value
    → Goes (seq (number 1 6 0) (sign (125 ∷ []))) text [] (Number 5 value) rest
unfolding Goes
Goes-first_digit text rest value d h =
    let is : next_value 0 d.0 ≡ value = first_value d.0 ∙ sym d.3 in
    let B : Grammar = sign (125 ∷ []) in
    let digit : Leads (seq (number 1 6 0) (seq (sign (125 ∷ [])) h)) (d.0 ∷ rest) []
    (seq (number 0 5 (next_value 0 d.0)) (seq (sign (125 ∷ [])) h)) rest =
    Leads-digit 1 5 0 d.0 (seq (sign (125 ∷ [])) h) rest d.2 (λ e. absurd (omega (arith, e))) (inl (omega arith)) in
    let moved : Leads (seq (seq (number 1 6 0) (sign (125 ∷ []))) h) (d.0 ∷ rest) []
    (seq (Number 5 (next_value 0 d.0)) h) rest =
    Leads-trans (seq (seq (number 1 6 0) (sign (125 ∷ []))) h) (seq (number 1 6 0) (seq (sign (125 ∷ [])) h))
    (seq (Number 5 (next_value 0 d.0)) h) (d.0 ∷ rest) (d.0 ∷ rest) rest [] []
    (Leads-same (seq (seq (number 1 6 0) (sign (125 ∷ []))) h) (seq (number 1 6 0) (seq (sign (125 ∷ [])) h))
    (d.0 ∷ rest) (Same-assoc (number 1 6 0) (sign (125 ∷ [])) h))
    (Leads-trans (seq (number 1 6 0) (seq (sign (125 ∷ [])) h))
    (seq (number 0 5 (next_value 0 d.0)) (seq (sign (125 ∷ [])) h)) (seq (Number 5 (next_value 0 d.0)) h)
    (d.0 ∷ rest) rest rest [] [] digit
    (Leads-same (seq (number 0 5 (next_value 0 d.0)) (seq (sign (125 ∷ [])) h)) (seq (Number 5 (next_value 0 d.0)) h)
    rest (Same-sym (seq (Number 5 (next_value 0 d.0)) h)
    (seq (number 0 5 (next_value 0 d.0)) (seq (sign (125 ∷ [])) h))
    (Same-assoc (number 0 5 (next_value 0 d.0)) (sign (125 ∷ [])) h)))) in
    subst (λ a. Leads (seq (seq (number 1 6 0) (sign (125 ∷ []))) h) a [] (seq (Number 5 value) h) rest) (sym d.1)
    (subst (λ a. Leads (seq (seq (number 1 6 0) (sign (125 ∷ []))) h) (d.0 ∷ rest) [] (seq (Number 5 a) h) rest) is
    moved)

pub Stops-undigited_brace : (text : List ℕ) → Undigited text → Stops (seq (number 1 6 0) (sign (125 ∷ []))) text text
Stops-undigited_brace text u = Stops-first (number 1 6 0) (sign (125 ∷ [])) text text (Stops-undigited 0 6 0 text u)

-- ---- escapes

abbrev letter_escape : Grammar
letter_escape = one is_letter (λ b. named b ∷ [])

abbrev hex_escape : Grammar
hex_escape = seq (sign (120 ∷ [])) (number 2 2 0)

abbrev braced_number : Grammar
braced_number = seq (number 1 6 0) (sign (125 ∷ []))

abbrev braced_escape : Grammar
braced_escape = seq (sign (117 ∷ 123 ∷ [])) braced_number

pub Goes-hex : (text rest : List ℕ) → text ≡ 120 ∷ rest → Goes escape text [] (number 2 2 0) rest
Goes-hex text rest e = subst (λ a. Goes escape a [] (number 2 2 0) rest) (sym e)
    (Goes-trans escape (either hex_escape braced_escape) (number 2 2 0) (120 ∷ rest) (120 ∷ rest) rest [] []
    (Goes-right letter_escape (either hex_escape braced_escape) 120 rest refl refl)
    (Goes-trans (either hex_escape braced_escape) hex_escape (number 2 2 0) (120 ∷ rest) (120 ∷ rest) rest [] []
    (Goes-left hex_escape braced_escape 120 rest refl refl)
    (Goes-first (sign (120 ∷ [])) (number 2 2 0) (120 ∷ rest) rest [] (Takes-byte 120 rest))))

-- one byte of several
Goes-letter : (b c : ℕ) (s : List ℕ) (k : Grammar) (rest : List ℕ)
    → Goes (seq (sign (b ∷ c ∷ s)) k) (b ∷ rest) [] (seq (sign (c ∷ s)) k) rest
unfolding Goes
Goes-letter b c s k rest h =
    Leads-trans (seq (seq (sign (b ∷ c ∷ s)) k) h) (seq (sign (b ∷ c ∷ s)) (seq k h)) (seq (seq (sign (c ∷ s)) k) h)
    (b ∷ rest) (b ∷ rest) rest [] []
    (Leads-same (seq (seq (sign (b ∷ c ∷ s)) k) h) (seq (sign (b ∷ c ∷ s)) (seq k h)) (b ∷ rest)
    (Same-assoc (sign (b ∷ c ∷ s)) k h))
    (Leads-trans (seq (sign (b ∷ c ∷ s)) (seq k h)) (seq (sign (c ∷ s)) (seq k h)) (seq (seq (sign (c ∷ s)) k) h)
    (b ∷ rest) rest rest [] [] (Leads-sign b (c ∷ s) (seq k h) rest)
    (Leads-same (seq (sign (c ∷ s)) (seq k h)) (seq (seq (sign (c ∷ s)) k) h) rest
    (Same-sym (seq (seq (sign (c ∷ s)) k) h) (seq (sign (c ∷ s)) (seq k h)) (Same-assoc (sign (c ∷ s)) k h))))

Goes-u : (text rest : List ℕ) → text ≡ 117 ∷ rest → Goes escape text [] (seq (sign (123 ∷ [])) braced_number) rest
Goes-u text rest e = subst (λ a. Goes escape a [] (seq (sign (123 ∷ [])) braced_number) rest) (sym e)
    (Goes-trans escape (either hex_escape braced_escape) (seq (sign (123 ∷ [])) braced_number) (117 ∷ rest)
    (117 ∷ rest) rest [] [] (Goes-right letter_escape (either hex_escape braced_escape) 117 rest refl refl)
    (Goes-trans (either hex_escape braced_escape) braced_escape (seq (sign (123 ∷ [])) braced_number) (117 ∷ rest)
    (117 ∷ rest) rest [] [] (Goes-right hex_escape braced_escape 117 rest refl refl)
    (Goes-letter 117 123 [] braced_number rest)))

pub Goes-braced : (text middle rest : List ℕ) → text ≡ 117 ∷ middle → middle ≡ 123 ∷ rest
    → Goes escape text [] braced_number rest
Goes-braced text middle rest e f =
    Goes-trans escape (seq (sign (123 ∷ [])) braced_number) braced_number text middle rest [] [] (Goes-u text middle e)
    (subst (λ a. Goes (seq (sign (123 ∷ [])) braced_number) a [] braced_number rest) (sym f)
    (Goes-first (sign (123 ∷ [])) braced_number (123 ∷ rest) rest [] (Takes-byte 123 rest)))

pub Stops-u : (text rest : List ℕ) → text ≡ 117 ∷ rest → BeginsOtherwise 123 rest → Stops escape text rest
Stops-u text rest e l = Stops-behind escape (seq (sign (123 ∷ [])) braced_number) text rest rest []
    (Goes-u text rest e) (Stops-first (sign (123 ∷ [])) braced_number rest rest (Stops-byte 123 rest l))

-- what is known of a letter at the front
abbrev pub IsLetter : List ℕ → List ℕ → ℕ → Type 0
IsLetter text rest value = (b : ℕ) × (text ≡ b ∷ rest) × IsTrue (is_letter b) × (value ≡ named b) × (value < 128)

starts_other : (c : ℕ) → c ≢ 120 → c ≢ 117 → starts (either hex_escape braced_escape) c ≡ false
starts_other c a b = none_or (starts hex_escape c) (starts braced_escape c)
    (none_or (c == 120) false (ne_eqb c 120 a) refl) (none_or (c == 117) false (ne_eqb c 117 b) refl)

pub Takes-letter : (text rest : List ℕ) (value c : ℕ) → IsLetter text rest value → c ≡ value → BeginsOtherwise 120 text
    → BeginsOtherwise 117 text → Takes escape text (letters (encode_utf8 c)) rest
Takes-letter text rest value c l e no_x no_u =
    let not_x : l.0 ≢ 120 = subst (BeginsOtherwise 120) l.1 no_x in
    let not_u : l.0 ≢ 117 = subst (BeginsOtherwise 117) l.1 no_u in
    let said : letters (named l.0 ∷ []) ≡ letters (encode_utf8 c) =
    ap letters (sym (ap encode_utf8 e ∙ encode_ascii value l.4 ∙ ap (λ k. k ∷ []) l.3)) in
    let here : Takes escape (l.0 ∷ rest) (letters (named l.0 ∷ [])) rest =
    Takes-left letter_escape (either hex_escape braced_escape) l.0 rest (letters (named l.0 ∷ [])) rest refl
    (starts_other l.0 not_x not_u)
    (λ h. Leads-one is_letter (λ b. named b ∷ []) l.0 h rest l.2) in
    subst (λ a. Takes escape a (letters (encode_utf8 c)) rest) (sym l.1)
    (subst (λ w. Takes escape (l.0 ∷ rest) w rest) said here)

misses_escape : (text : List ℕ) → BeginsOtherwise 120 text → BeginsOtherwise 117 text → Unlettered text
    → Misses escape text
misses_escape [] a b u = refl
misses_escape (c ∷ r) a b u = none_or (is_letter c) (starts (either hex_escape braced_escape) c) u (starts_other c a b)

pub Stops-escape : (text : List ℕ) → BeginsOtherwise 120 text → BeginsOtherwise 117 text → Unlettered text
    → Stops escape text text
Stops-escape text a b u = Stops-at escape text refl (misses_escape text a b u)

-- ---- strings

-- what is left of a string inside its quotes
abbrev pub inside : Grammar
inside = seq (many character) (seq (sign (34 ∷ [])) (say the_end))

and_parts : (a b : Bool) → IsTrue (a && b) → IsTrue a × IsTrue b
and_parts true b h = (refl, h)
and_parts false b h = absurd (false≢true h)

plain_parts : (b : ℕ) → IsTrue (is_plain b) → (b == 34) ≡ false
plain_parts b t = not_false (b == 34) (and_parts (not (b == 34)) (not (b == 92)) t).0

plain_slash : (b : ℕ) → IsTrue (is_plain b) → (b == 92) ≡ false
plain_slash b t = not_false (b == 92) (and_parts (not (b == 34)) (not (b == 92)) t).1

pub Goes-plain : (p r : List ℕ) → AllByRecursion (λ b. IsTrue (is_plain b)) p
    → Goes inside (p ++ r) (letters p) inside r
Goes-plain [] r a = Goes-same inside inside r (λ h. Same-refl (seq inside h))
Goes-plain (b ∷ p) r a =
    let not_quote : (b == 34) ≡ false = plain_parts b a.0 in
    let not_slash : (b == 92) ≡ false = plain_slash b a.0 in
    Goes-trans inside inside inside (b ∷ (p ++ r)) (p ++ r) r (letters (b ∷ [])) (letters p)
    (Goes-again character (seq (sign (34 ∷ [])) (say the_end)) b (p ++ r) (p ++ r) (letters (b ∷ [])) refl
    (none_or (b == 34) false not_quote refl)
    (Takes-left (one is_plain (λ b. b ∷ [])) (seq (sign (92 ∷ [])) escape) b (p ++ r) (letters (b ∷ [])) (p ++ r) refl
    (none_or (b == 92) false not_slash refl) (λ h. Leads-one is_plain (λ b. b ∷ []) b h (p ++ r) a.0)))
    (Goes-plain p r a.1)

pub Goes-quote : (text rest : List ℕ) → text ≡ 34 ∷ rest → Goes string text [] inside rest
Goes-quote text rest e = subst (λ a. Goes string a [] inside rest) (sym e)
    (Goes-first (sign (34 ∷ [])) inside (34 ∷ rest) rest [] (Takes-byte 34 rest))

Goes-slash : (text rest : List ℕ) → text ≡ 92 ∷ rest → Goes inside text [] (seq escape inside) rest
Goes-slash text rest e = subst (λ a. Goes inside a [] (seq escape inside) rest) (sym e)
    (Goes-trans inside (seq character inside) (seq escape inside) (92 ∷ rest) (92 ∷ rest) rest [] []
    (Goes-into character (seq (sign (34 ∷ [])) (say the_end)) 92 rest refl refl)
    (Goes-under character inside (seq (sign (92 ∷ [])) escape) escape (92 ∷ rest) rest
    (Goes-right (one is_plain (λ b. b ∷ [])) (seq (sign (92 ∷ [])) escape) 92 rest refl refl)
    (Goes-first (sign (92 ∷ [])) escape (92 ∷ rest) rest [] (Takes-byte 92 rest))))

-- plain bytes and an escape
pub Goes-escape : (text plain behind rest next : List ℕ) (c : ℕ) → text ≡ plain ++ behind
    → AllByRecursion (λ b. IsTrue (is_plain b)) plain → behind ≡ 92 ∷ rest
    → Takes escape rest (letters (encode_utf8 c)) next → Goes inside text (letters plain ++ letters (encode_utf8 c))
    inside next
Goes-escape text plain behind rest next c e a f l =
    subst (λ t. Goes inside t (letters plain ++ letters (encode_utf8 c)) inside next) (sym e)
    (Goes-trans inside inside inside (plain ++ behind) behind next (letters plain) (letters (encode_utf8 c))
    (Goes-plain plain behind a)
    (Goes-trans inside (seq escape inside) inside behind rest next [] (letters (encode_utf8 c))
    (Goes-slash behind rest f) (Goes-first escape inside rest next (letters (encode_utf8 c)) l)))

pub StopsAs-escape : (text plain behind rest : List ℕ) (e : Stop) → text ≡ plain ++ behind
    → AllByRecursion (λ b. IsTrue (is_plain b)) plain → behind ≡ 92 ∷ rest → StopsAs escape rest e
    → StopsAs inside text e
StopsAs-escape text plain behind rest s e a f l =
    subst (λ t. StopsAs inside t s) (sym e)
    (StopsAs-behind inside inside (plain ++ behind) behind (letters plain) s (Goes-plain plain behind a)
    (StopsAs-behind inside (seq escape inside) behind rest [] s (Goes-slash behind rest f)
    (StopsAs-first escape inside rest s l)))

pub Takes-end : (text plain behind rest : List ℕ) → text ≡ plain ++ behind
    → AllByRecursion (λ b. IsTrue (is_plain b)) plain → behind ≡ 34 ∷ rest
    → Takes inside text (letters plain ++ the_end ∷ []) rest
Takes-end text plain behind rest e a f =
    subst (λ t. Takes inside t (letters plain ++ the_end ∷ []) rest) (sym (e ∙ ap (λ q. plain ++ q) f))
    (Takes-behind inside inside (plain ++ 34 ∷ rest) (34 ∷ rest) rest (letters plain) (the_end ∷ [])
    (Goes-plain plain (34 ∷ rest) a)
    (Takes-behind inside (seq (sign (34 ∷ [])) (say the_end)) (34 ∷ rest) (34 ∷ rest) rest [] (the_end ∷ [])
    (Goes-enough character (seq (sign (34 ∷ [])) (say the_end)) 34 rest refl refl)
    (Takes-seq (sign (34 ∷ [])) (say the_end) (34 ∷ rest) rest rest [] (the_end ∷ []) (Takes-byte 34 rest)
    (λ h. Leads-say the_end h rest))))

plain_from : (c : ℕ) → (c == 34) ≡ false → (c == 92) ≡ false → is_plain c ≡ true
plain_from c a b = (λ i. not (a i) && not (b i))

nothing_left : (behind : List ℕ) → Unplain behind → BeginsOtherwise 34 behind → BeginsOtherwise 92 behind → behind ≡ []
nothing_left [] u a b = refl
nothing_left (c ∷ r) u a b = absurd (false≢true (sym u ∙ plain_from c (ne_eqb c 34 a) (ne_eqb c 92 b)))

pub Stops-inside : (text plain behind : List ℕ) → text ≡ plain ++ behind
    → AllByRecursion (λ b. IsTrue (is_plain b)) plain → Unplain behind → BeginsOtherwise 34 behind
    → BeginsOtherwise 92 behind
    → Stops inside text behind
Stops-inside text plain behind e a u q s =
    subst (λ t. Stops inside t behind) (sym e)
    (Stops-behind inside inside (plain ++ behind) behind behind (letters plain) (Goes-plain plain behind a)
    (subst (λ b. Stops inside b b) (sym (nothing_left behind u q s)) (Stops-at inside [] refl refl)))

-- ---- the loop over a string's parts

more_said : (value plain all e last : List ℕ) → all ≡ value ++ plain → last ≡ all ++ e
    → letters last ≡ letters value ++ (letters plain ++ letters e)
more_said value plain all e last a b =
    ap letters (b ∙ ap (λ q. q ++ e) a ∙ append_assoc value plain e) ∙ map-append letter value (plain ++ e)
    ∙ ap (λ q. letters value ++ q) (map-append letter plain e)

pub Goes-on : (text rest plain behind escape_rest next : List ℕ) (value all last : List ℕ) (c : ℕ)
    → Goes string text (letters value) inside rest → rest ≡ plain ++ behind
    → AllByRecursion (λ b. IsTrue (is_plain b)) plain → behind ≡ 92 ∷ escape_rest
    → Takes escape escape_rest (letters (encode_utf8 c)) next → all ≡ value ++ plain → last ≡ all ++ encode_utf8 c
    → Goes string text (letters last) inside next
Goes-on text rest plain behind escape_rest next value all last c g e a f l m n =
    subst (λ w. Goes string text w inside next) (sym (more_said value plain all (encode_utf8 c) last m n))
    (Goes-trans string inside inside text rest next (letters value) (letters plain ++ letters (encode_utf8 c)) g
    (Goes-escape rest plain behind escape_rest next c e a f l))

pub shorter : (rest plain behind escape_rest next : List ℕ) (s : List Word) → rest ≡ plain ++ behind
    → behind ≡ 92 ∷ escape_rest → Takes escape escape_rest s next → length next < length rest
shorter rest plain behind escape_rest next s e f l =
    let parts = l nothing in
    let a : length escape_rest ≡ length parts.x + length next = ap length parts.split ∙ length-append parts.x next in
    let b : length behind ≡ suc (length escape_rest) = ap length f in
    let d : length rest ≡ length plain + length behind = ap length e ∙ length-append plain behind in
    omega (arith, a, b, d)

pub Takes-string : (text rest plain behind next : List ℕ) (value all : List ℕ)
    → Goes string text (letters value) inside rest → rest ≡ plain ++ behind
    → AllByRecursion (λ b. IsTrue (is_plain b)) plain → behind ≡ 34 ∷ next → all ≡ value ++ plain
    → Takes string text (letters all ++ the_end ∷ []) next
Takes-string text rest plain behind next value all g e a f m =
    let said : letters value ++ (letters plain ++ the_end ∷ []) ≡ letters all ++ the_end ∷ [] =
    sym (append_assoc (letters value) (letters plain) (the_end ∷ []))
    ∙ ap (λ q. q ++ the_end ∷ []) (sym (map-append letter value plain) ∙ ap letters (sym m)) in
    subst (λ w. Takes string text w next) said
    (Takes-behind string inside text rest next (letters value) (letters plain ++ the_end ∷ []) g
    (Takes-end rest plain behind next e a f))

pub Stops-string : (text rest plain behind : List ℕ) (value : List ℕ) → Goes string text (letters value) inside rest
    → rest ≡ plain ++ behind → AllByRecursion (λ b. IsTrue (is_plain b)) plain → Unplain behind
    → BeginsOtherwise 34 behind
    → BeginsOtherwise 92 behind → Stops string text behind
Stops-string text rest plain behind value g e a u q s =
    Stops-behind string inside text rest behind (letters value) g (Stops-inside rest plain behind e a u q s)

pub StopsAs-string : (text rest plain behind escape_rest : List ℕ) (value : List ℕ) (s : Stop)
    → Goes string text (letters value) inside rest → rest ≡ plain ++ behind
    → AllByRecursion (λ b. IsTrue (is_plain b)) plain → behind ≡ 92 ∷ escape_rest → StopsAs escape escape_rest s
    → StopsAs string text s
StopsAs-string text rest plain behind escape_rest value s g e a f l =
    StopsAs-behind string inside text rest (letters value) s g (StopsAs-escape rest plain behind escape_rest s e a f l)

-- at the beginning no part has come
pub Goes-begun : (text rest : List ℕ) (value : List ℕ) → text ≡ 34 ∷ rest → value ≡ []
    → Goes string text (letters value) inside rest
Goes-begun text rest value e n = subst (λ w. Goes string text (letters w) inside rest) (sym n) (Goes-quote text rest e)
