-- What is in the reach of a host, and of a text in its reach.
use Rattle.std.proofs.Common.{◌≡◌, ◌⊎◌, ℕ, ◌≤◌, List, [], ◌∷◌, ◌++◌, length, sym, ap, ◌∙◌, subst, inl, inr, arith}
use Rattle.std.proofs.lemmas.List.{append_assoc}
use Rattle.store_parts.specs.DomainMatch.{EndsAfterDot, IsHostName}
use Rattle.cookie_client.specs.Hosts.{IsInReach}
use Rattle.cookie_run.specs.SharedHosts.{EndsInNoAddress}
use Rattle.cookie_client.proofs.BehindDots.{behind_shorter}

-- of two texts behind dots of one host the shorter is the longer, or stands behind a dot of it
pub end_of_end : (before front t s : List ℕ) → before ++ 46 ∷ t ≡ front ++ 46 ∷ s → length s ≤ length t
    → (t ≡ s) ⊎ EndsAfterDot t s
end_of_end [] [] t s is short = let tails : t ≡ s = cc in inl tails
end_of_end [] (y ∷ front) t s is short = let tails : t ≡ front ++ 46 ∷ s = cc in inr (front, tails)
end_of_end (x ∷ before) [] t s is short =
    let tails : s ≡ before ++ 46 ∷ t = cc in absurd (omega (arith, short, behind_shorter s t (before, tails)))
end_of_end (x ∷ before) (y ∷ front) t s is short =
    let tails : before ++ 46 ∷ t ≡ front ++ 46 ∷ s = cc in end_of_end before front t s tails short

-- a text in the reach of a host that is no longer than another there is in the reach of that one
pub reach_within : (host t s : List ℕ) → EndsInNoAddress host → IsInReach host t → IsInReach host s
    → length s ≤ length t → IsInReach t s
reach_within host t s ends (inl same) of_s short = subst (λ x. IsInReach x s) same of_s
reach_within host t s ends (inr below) (inl same) short =
    absurd (omega (arith, short, ap length same, behind_shorter host t below.1))
reach_within host t s ends (inr below) (inr other) short =
    within (end_of_end below.1.0 other.1.0 t s (sym below.1.1 ∙ other.1.1) short) (ends t (inr below))
  where
    within : (t ≡ s) ⊎ EndsAfterDot t s → (host ≡ t) ⊎ IsHostName t → IsInReach t s
    within (inl same) named = inl same
    within (inr after) (inl same) = inr (subst IsHostName same below.0, after)
    within (inr after) (inr named) = inr (named, after)

-- the reach of a text in the reach of a host is of it
pub reach_further : (host t s : List ℕ) → IsInReach host t → IsInReach t s → IsInReach host s
reach_further host t s (inl same) of_t = subst (λ x. IsInReach x s) (sym same) of_t
reach_further host t s (inr below) (inl same) = subst (IsInReach host) same (inr below)
reach_further host t s (inr (named, (before, is))) (inr (name, (front, ends))) = inr (
  named,
  (
    before ++ 46 ∷ front,
    is ∙ (ap (λ x. before ++ 46 ∷ x) ends ∙ sym (append_assoc before (46 ∷ front) (46 ∷ s))),
  ),
)

-- two texts of one length in one reach are equal
pub reach_once : (host a b : List ℕ) → IsInReach host a → IsInReach host b → length a ≡ length b → a ≡ b
reach_once host a b (inl same) (inl other) long = sym same ∙ other
reach_once host a b (inl same) (inr below) long =
    absurd (omega (arith, long, ap length same, behind_shorter host b below.1))
reach_once host a b (inr below) (inl same) long =
    absurd (omega (arith, long, ap length same, behind_shorter host a below.1))
reach_once host a b (inr below) (inr other) long =
    once (end_of_end below.1.0 other.1.0 a b (sym below.1.1 ∙ other.1.1) (omega (arith, long)))
  where
    once : (a ≡ b) ⊎ EndsAfterDot a b → a ≡ b
    once (inl same) = same
    once (inr after) = absurd (omega (arith, long, behind_shorter a b after))

-- a text there that is no shorter than the host is the host
pub reach_whole : (host text : List ℕ) → IsInReach host text → length host ≤ length text → host ≡ text
reach_whole host text (inl same) long = same
reach_whole host text (inr below) long = absurd (omega (arith, long, behind_shorter host text below.1))

-- and none is longer
pub reach_short : (host text : List ℕ) → IsInReach host text → length text ≤ length host
reach_short host text (inl same) = omega (arith, ap length same)
reach_short host text (inr below) = omega (arith, behind_shorter host text below.1)
