-- A ring of keys, key by key, and what is told of a fault of one.
use Rattle.std.proofs.Common.{◌≡◌, ◌≤◌, ◌<◌, ◌≤ℤ◌, ◌+◌, ◌*◌, ℕ, ℤ, List, [], ◌∷◌, ◌++◌, length, take, drop, get_or}
use Rattle.std.proofs.Common.{Result, Ok, inl, inr, refl, sym, ap, subst, ◌∙◌, arith}
use Rattle.std.proofs.lemmas.List.{drop-drop, drop_more, length-take-le, take-append-drop, take_more}
use Rattle.std.specs.Prelude.{IfOk}
use Rattle.cookie.specs.KeyRing.{Ring}
use Rattle.cookie.specs.declared.secure.key_ring.EarlierKey.{EarlierKey}
use Rattle.fonnalich_c.specs.Faults.{IsTold}
use Rattle.fonnalich_c.specs.Given.{IsNoMoment}
use Rattle.fonnalich_c.specs.Numbers.{refusal_number}
use Rattle.fonnalich_c.specs.Ring.{AreEarlier, HasNoEnd, IsEarlier, IsKeyFault, IsNoEnd, IsRing}
use Rattle.fonnalich_c.specs.Exchange.{IsOpeningFault}
use Rattle.fonnalich_c.specs.declared.refusal.Refusal.{Refusal}

-- ---- one key more

-- the keys behind the next one
pub next_left : (keys left : List ℕ) (i : ℕ) → left ≡ drop (64 * i) keys → drop 64 left ≡ drop (64 * (i + 1)) keys
next_left keys left i same =
    let sum : 64 * i + 64 ≡ 64 * (i + 1) = omega arith in
    ap (drop 64) same ∙ drop-drop 64 (64 * i) keys ∙ ap (λ n. drop n keys) sum

earlier_more : (keys left : List ℕ) (ends : List ℤ) (end : ℤ) (earlier : List EarlierKey) (key : EarlierKey)
    → AreEarlier keys ends earlier → left ≡ drop (64 * length ends) keys → IsEarlier (take 64 left) end key
    → AreEarlier keys (ends ++ end ∷ []) (earlier ++ key ∷ [])
earlier_more keys left [] end earlier key are same is = (
  key,
  [],
  ap (λ es. es ++ key ∷ []) are,
  subst (λ l. IsEarlier (take 64 l) end key) same is,
  refl,
)
earlier_more keys left (e ∷ ends) end earlier key are same is =
    let sum : 64 * length (e ∷ ends) ≡ 64 + 64 * length ends = omega arith in
    let behind : left ≡ drop (64 * length ends) (drop 64 keys) =
    same ∙ ap (λ n. drop n keys) sum ∙ sym (drop-drop (64 * length ends) 64 keys) in (
      are.0,
      are.1 ++ key ∷ [],
      ap (λ es. es ++ key ∷ []) are.2,
      are.3,
      earlier_more (drop 64 keys) left ends end are.1 key are.4 behind is,
    )

pub next_earlier : (keys left : List ℕ) (ends : List ℤ) (i : ℕ) (d : ℤ) (earlier later : List EarlierKey)
    (key : EarlierKey) → i < length ends → AreEarlier keys (take i ends) earlier → left ≡ drop (64 * i) keys
    → IsEarlier (take 64 left) (get_or ends i d) key → later ≡ earlier ++ key ∷ []
    → AreEarlier keys (take (i + 1) ends) later
next_earlier keys left ends i d earlier later key less are same is more =
    let within : i ≤ length ends = omega arith in
    let count : i ≡ length (take i ends) = sym (length-take-le i ends within) in
    subst (λ es. AreEarlier keys es later) (sym (take_more ends i d less))
    (subst (AreEarlier keys (take i ends ++ get_or ends i d ∷ [])) (sym more)
    (earlier_more keys left (take i ends) (get_or ends i d) earlier key are
    (same ∙ ap (λ n. drop (64 * n) keys) count) is))

-- an end that is none
pub ends_at : (ends : List ℤ) (i : ℕ) (d : ℤ) → i < length ends → IsNoEnd (get_or ends i d) → HasNoEnd ends
ends_at ends i d less none = (
  take i ends,
  get_or ends i d,
  drop (i + 1) ends,
  sym (take-append-drop i ends) ∙ ap (λ es. take i ends ++ es) (drop_more ends i d less),
  none,
)

-- ---- the ring

pub are_as_many : (keys : List ℕ) (ends : List ℤ) (earlier : List EarlierKey) → AreEarlier keys ends earlier
    → length earlier ≡ length ends
are_as_many keys [] earlier are = ap length are
are_as_many keys (e ∷ ends) earlier are =
    let more : length earlier ≡ length (are.0 ∷ are.1) = ap length are.2 in
    let same : length are.1 ≡ length ends = are_as_many (drop 64 keys) ends are.1 are.4 in
    omega arith

pub ring_is : {E : Type 0} (keys : List ℕ) (ends : List ℤ) (r : Result Ring E) (ring : Ring) (current : List ℕ)
    (earlier : List EarlierKey) → r ≡ Ok ring
    → IfOk r (λ made. (made.current ≡ current) × (made.earlier ≡ earlier)) → length ends ≤ 16
    → length keys ≡ 64 * (length ends + 1) → current ≡ take 64 keys → AreEarlier (drop 64 keys) ends earlier
    → IsRing keys ends ring
ring_is keys ends r ring current earlier made parts few whole is are =
    let its : (ring.current ≡ current) × (ring.earlier ≡ earlier) =
    subst (λ r. IfOk r (λ made. (made.current ≡ current) × (made.earlier ≡ earlier))) made parts in
    record {
      few = few;
      whole = whole;
      current = its.0 ∙ is;
      earlier = subst (AreEarlier (drop 64 keys) ends) (sym its.1) are;
    }

-- ---- what is told: the second before the keys

pub keys_on_ring : (keys : List ℕ) (ends : List ℤ) (second : ℤ) (refused : Refusal) → ¬ IsNoMoment second
    → IsTold (IsKeyFault keys ends) refused → IsTold (IsOpeningFault (IsKeyFault keys ends) second) refused
keys_on_ring keys ends second refused is (inl lack) = inl lack
keys_on_ring keys ends second refused is (inr first) = inr (inr first.0, behind)
  where
    behind : (other : Refusal) → IsOpeningFault (IsKeyFault keys ends) second other
        → refusal_number other ≤ℤ refusal_number refused
    behind other (inl so) = absurd (is so.1)
    behind other (inr so) = first.1 other so
