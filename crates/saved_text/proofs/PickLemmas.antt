-- Which of the missing fields stands first: cases over what is missing.
use Rattle.std.specs.Prelude.{Bool, true, false, IsTrue, ◌==◌}
use Rattle.std.proofs.Common.{◌≡◌, ℕ, List, [], ◌∷◌, refl, sym, inl, inr, subst}
use Rattle.std.proofs.lemmas.Bool.{ne_eqb, false≢true}
use Rattle.saved_text.specs.Grammar.{Grammar}
use Rattle.saved_text.specs.Grammar.Grammar.{nothing, space, seq}
use Rattle.saved_text.specs.Ron.{comma, raw_field, path_field, domain_field, expires_field, ◌▹◌}
use Rattle.saved_text.specs.Faults.{BeginsWith, BeginsOtherwise}
use Rattle.saved_text.specs.Reads.{Stops}
use Rattle.saved_text.specs.Drafts.{remaining, after, is_lacking}
use Rattle.saved_text.proofs.StepLemmas.{starts, nullable, solid, Misses, Same-sym, Same-nothing, Stops-at}
use Rattle.saved_text.proofs.RonLemmas.{Goes, Goes-same}
use Rattle.saved_text.proofs.ListLemmas.{seq_left, choice, IsPick, Goes-choice}

picked : (p g : Grammar) (ks : List Grammar) (c : ℕ) (text : List ℕ) → BeginsWith c text → IsPick p g ks c
    → Goes (choice g ks) text [] p text
picked p g ks c text b e = subst (λ t. Goes (choice g ks) t [] p t) (sym b.1) (Goes-choice p g ks c b.0 e)

-- the last field that is missing
last : (g : Grammar) (text : List ℕ) → Goes g text [] (seq g nothing) text
last g text = Goes-same g (seq g nothing) text
    (λ h. seq_left g (seq g nothing) h (Same-sym (seq g nothing) g (Same-nothing g)))

pub raw_picked : (p d e : Bool) (text : List ℕ) → BeginsWith 114 text
    → Goes (remaining true p d e) text [] (seq raw_field (after false p d e)) text
raw_picked true true true text b = picked (raw_field ▹ comma ▹ (remaining false true true true))
    (raw_field ▹ comma ▹ (remaining false true true true))
    ((path_field ▹ comma ▹ (remaining true false true true)) ∷
    (domain_field ▹ comma ▹ (remaining true true false true)) ∷
    (expires_field ▹ comma ▹ (remaining true true true false)) ∷ []) 114 text b (inl (refl, (refl, refl)))
raw_picked true true false text b = picked (raw_field ▹ comma ▹ (remaining false true true false))
    (raw_field ▹ comma ▹ (remaining false true true false))
    ((path_field ▹ comma ▹ (remaining true false true false)) ∷
    (domain_field ▹ comma ▹ (remaining true true false false)) ∷ []) 114 text b (inl (refl, (refl, refl)))
raw_picked true false true text b = picked (raw_field ▹ comma ▹ (remaining false true false true))
    (raw_field ▹ comma ▹ (remaining false true false true))
    ((path_field ▹ comma ▹ (remaining true false false true)) ∷
    (expires_field ▹ comma ▹ (remaining true true false false)) ∷ []) 114 text b (inl (refl, (refl, refl)))
raw_picked true false false text b = picked (raw_field ▹ comma ▹ (remaining false true false false))
    (raw_field ▹ comma ▹ (remaining false true false false))
    ((path_field ▹ comma ▹ (remaining true false false false)) ∷ []) 114 text b (inl (refl, (refl, refl)))
raw_picked false true true text b = picked (raw_field ▹ comma ▹ (remaining false false true true))
    (raw_field ▹ comma ▹ (remaining false false true true))
    ((domain_field ▹ comma ▹ (remaining true false false true)) ∷
    (expires_field ▹ comma ▹ (remaining true false true false)) ∷ []) 114 text b (inl (refl, (refl, refl)))
raw_picked false true false text b = picked (raw_field ▹ comma ▹ (remaining false false true false))
    (raw_field ▹ comma ▹ (remaining false false true false))
    ((domain_field ▹ comma ▹ (remaining true false false false)) ∷ []) 114 text b (inl (refl, (refl, refl)))
raw_picked false false true text b = picked (raw_field ▹ comma ▹ (remaining false false false true))
    (raw_field ▹ comma ▹ (remaining false false false true))
    ((expires_field ▹ comma ▹ (remaining true false false false)) ∷ []) 114 text b (inl (refl, (refl, refl)))
raw_picked false false false text b = last raw_field text

pub path_picked : (r d e : Bool) (text : List ℕ) → BeginsWith 112 text
    → Goes (remaining r true d e) text [] (seq path_field (after r false d e)) text
path_picked true true true text b = picked (path_field ▹ comma ▹ (remaining true false true true))
    (raw_field ▹ comma ▹ (remaining false true true true))
    ((path_field ▹ comma ▹ (remaining true false true true)) ∷
    (domain_field ▹ comma ▹ (remaining true true false true)) ∷
    (expires_field ▹ comma ▹ (remaining true true true false)) ∷ []) 112 text b
    (inr ((refl, refl), inl (refl, (refl, refl))))
path_picked true true false text b = picked (path_field ▹ comma ▹ (remaining true false true false))
    (raw_field ▹ comma ▹ (remaining false true true false))
    ((path_field ▹ comma ▹ (remaining true false true false)) ∷
    (domain_field ▹ comma ▹ (remaining true true false false)) ∷ []) 112 text b
    (inr ((refl, refl), inl (refl, (refl, refl))))
path_picked true false true text b = picked (path_field ▹ comma ▹ (remaining true false false true))
    (raw_field ▹ comma ▹ (remaining false true false true))
    ((path_field ▹ comma ▹ (remaining true false false true)) ∷
    (expires_field ▹ comma ▹ (remaining true true false false)) ∷ []) 112 text b
    (inr ((refl, refl), inl (refl, (refl, refl))))
path_picked true false false text b = picked (path_field ▹ comma ▹ (remaining true false false false))
    (raw_field ▹ comma ▹ (remaining false true false false))
    ((path_field ▹ comma ▹ (remaining true false false false)) ∷ []) 112 text b (inr ((refl, refl), refl))
path_picked false true true text b = picked (path_field ▹ comma ▹ (remaining false false true true))
    (path_field ▹ comma ▹ (remaining false false true true))
    ((domain_field ▹ comma ▹ (remaining false true false true)) ∷
    (expires_field ▹ comma ▹ (remaining false true true false)) ∷ []) 112 text b (inl (refl, (refl, refl)))
path_picked false true false text b = picked (path_field ▹ comma ▹ (remaining false false true false))
    (path_field ▹ comma ▹ (remaining false false true false))
    ((domain_field ▹ comma ▹ (remaining false true false false)) ∷ []) 112 text b (inl (refl, (refl, refl)))
path_picked false false true text b = picked (path_field ▹ comma ▹ (remaining false false false true))
    (path_field ▹ comma ▹ (remaining false false false true))
    ((expires_field ▹ comma ▹ (remaining false true false false)) ∷ []) 112 text b (inl (refl, (refl, refl)))
path_picked false false false text b = last path_field text

pub domain_picked : (r p e : Bool) (text : List ℕ) → BeginsWith 100 text
    → Goes (remaining r p true e) text [] (seq domain_field (after r p false e)) text
domain_picked true true true text b = picked (domain_field ▹ comma ▹ (remaining true true false true))
    (raw_field ▹ comma ▹ (remaining false true true true))
    ((path_field ▹ comma ▹ (remaining true false true true)) ∷
    (domain_field ▹ comma ▹ (remaining true true false true)) ∷
    (expires_field ▹ comma ▹ (remaining true true true false)) ∷ []) 100 text b
    (inr ((refl, refl), inr ((refl, refl), inl (refl, (refl, refl)))))
domain_picked true true false text b = picked (domain_field ▹ comma ▹ (remaining true true false false))
    (raw_field ▹ comma ▹ (remaining false true true false))
    ((path_field ▹ comma ▹ (remaining true false true false)) ∷
    (domain_field ▹ comma ▹ (remaining true true false false)) ∷ []) 100 text b
    (inr ((refl, refl), inr ((refl, refl), refl)))
domain_picked true false true text b = picked (domain_field ▹ comma ▹ (remaining true false false true))
    (raw_field ▹ comma ▹ (remaining false false true true))
    ((domain_field ▹ comma ▹ (remaining true false false true)) ∷
    (expires_field ▹ comma ▹ (remaining true false true false)) ∷ []) 100 text b
    (inr ((refl, refl), inl (refl, (refl, refl))))
domain_picked true false false text b = picked (domain_field ▹ comma ▹ (remaining true false false false))
    (raw_field ▹ comma ▹ (remaining false false true false))
    ((domain_field ▹ comma ▹ (remaining true false false false)) ∷ []) 100 text b (inr ((refl, refl), refl))
domain_picked false true true text b = picked (domain_field ▹ comma ▹ (remaining false true false true))
    (path_field ▹ comma ▹ (remaining false false true true))
    ((domain_field ▹ comma ▹ (remaining false true false true)) ∷
    (expires_field ▹ comma ▹ (remaining false true true false)) ∷ []) 100 text b
    (inr ((refl, refl), inl (refl, (refl, refl))))
domain_picked false true false text b = picked (domain_field ▹ comma ▹ (remaining false true false false))
    (path_field ▹ comma ▹ (remaining false false true false))
    ((domain_field ▹ comma ▹ (remaining false true false false)) ∷ []) 100 text b (inr ((refl, refl), refl))
domain_picked false false true text b = picked (domain_field ▹ comma ▹ (remaining false false false true))
    (domain_field ▹ comma ▹ (remaining false false false true))
    ((expires_field ▹ comma ▹ (remaining false false true false)) ∷ []) 100 text b (inl (refl, (refl, refl)))
domain_picked false false false text b = last domain_field text

pub expires_picked : (r p d : Bool) (text : List ℕ) → BeginsWith 101 text
    → Goes (remaining r p d true) text [] (seq expires_field (after r p d false)) text
expires_picked true true true text b = picked (expires_field ▹ comma ▹ (remaining true true true false))
    (raw_field ▹ comma ▹ (remaining false true true true))
    ((path_field ▹ comma ▹ (remaining true false true true)) ∷
    (domain_field ▹ comma ▹ (remaining true true false true)) ∷
    (expires_field ▹ comma ▹ (remaining true true true false)) ∷ []) 101 text b
    (inr ((refl, refl), inr ((refl, refl), inr ((refl, refl), refl))))
expires_picked true true false text b = picked (expires_field ▹ comma ▹ (remaining true true false false))
    (raw_field ▹ comma ▹ (remaining false true false true))
    ((path_field ▹ comma ▹ (remaining true false false true)) ∷
    (expires_field ▹ comma ▹ (remaining true true false false)) ∷ []) 101 text b
    (inr ((refl, refl), inr ((refl, refl), refl)))
expires_picked true false true text b = picked (expires_field ▹ comma ▹ (remaining true false true false))
    (raw_field ▹ comma ▹ (remaining false false true true))
    ((domain_field ▹ comma ▹ (remaining true false false true)) ∷
    (expires_field ▹ comma ▹ (remaining true false true false)) ∷ []) 101 text b
    (inr ((refl, refl), inr ((refl, refl), refl)))
expires_picked true false false text b = picked (expires_field ▹ comma ▹ (remaining true false false false))
    (raw_field ▹ comma ▹ (remaining false false false true))
    ((expires_field ▹ comma ▹ (remaining true false false false)) ∷ []) 101 text b (inr ((refl, refl), refl))
expires_picked false true true text b = picked (expires_field ▹ comma ▹ (remaining false true true false))
    (path_field ▹ comma ▹ (remaining false false true true))
    ((domain_field ▹ comma ▹ (remaining false true false true)) ∷
    (expires_field ▹ comma ▹ (remaining false true true false)) ∷ []) 101 text b
    (inr ((refl, refl), inr ((refl, refl), refl)))
expires_picked false true false text b = picked (expires_field ▹ comma ▹ (remaining false true false false))
    (path_field ▹ comma ▹ (remaining false false false true))
    ((expires_field ▹ comma ▹ (remaining false true false false)) ∷ []) 101 text b (inr ((refl, refl), refl))
expires_picked false false true text b = picked (expires_field ▹ comma ▹ (remaining false false true false))
    (domain_field ▹ comma ▹ (remaining false false false true))
    ((expires_field ▹ comma ▹ (remaining false false true false)) ∷ []) 101 text b (inr ((refl, refl), refl))
expires_picked false false false text b = last expires_field text

-- none of them stands first
none_start : (r p d e : Bool) (c : ℕ) → (r ≡ true → (c == 114) ≡ false) → (p ≡ true → (c == 112) ≡ false)
    → (d ≡ true → (c == 100) ≡ false) → (e ≡ true → (c == 101) ≡ false) → starts (remaining r p d e) c ≡ false
none_start true true true true c a b g h = rw (a refl, b refl, g refl, h refl) refl
none_start true true true false c a b g h = rw (a refl, b refl, g refl) refl
none_start true true false true c a b g h = rw (a refl, b refl, h refl) refl
none_start true true false false c a b g h = rw (a refl, b refl) refl
none_start true false true true c a b g h = rw (a refl, g refl, h refl) refl
none_start true false true false c a b g h = rw (a refl, g refl) refl
none_start true false false true c a b g h = rw (a refl, h refl) refl
none_start true false false false c a b g h = rw (a refl) refl
none_start false true true true c a b g h = rw (b refl, g refl, h refl) refl
none_start false true true false c a b g h = rw (b refl, g refl) refl
none_start false true false true c a b g h = rw (b refl, h refl) refl
none_start false true false false c a b g h = rw (b refl) refl
none_start false false true true c a b g h = rw (g refl, h refl) refl
none_start false false true false c a b g h = rw (g refl) refl
none_start false false false true c a b g h = rw (h refl) refl
none_start false false false false c a b g h = refl

pub remaining_null : (r p d e : Bool) → IsTrue (is_lacking r p d e) → nullable (remaining r p d e) ≡ false
remaining_null true true true true l = refl
remaining_null true true true false l = refl
remaining_null true true false true l = refl
remaining_null true true false false l = refl
remaining_null true false true true l = refl
remaining_null true false true false l = refl
remaining_null true false false true l = refl
remaining_null true false false false l = refl
remaining_null false true true true l = refl
remaining_null false true true false l = refl
remaining_null false true false true l = refl
remaining_null false true false false l = refl
remaining_null false false true true l = refl
remaining_null false false true false l = refl
remaining_null false false false true l = refl
remaining_null false false false false l = absurd (false≢true l)

pub remaining_solid : (r p d e : Bool) → IsTrue (is_lacking r p d e) → IsTrue (solid (remaining r p d e))
remaining_solid true true true true l = refl
remaining_solid true true true false l = refl
remaining_solid true true false true l = refl
remaining_solid true true false false l = refl
remaining_solid true false true true l = refl
remaining_solid true false true false l = refl
remaining_solid true false false true l = refl
remaining_solid true false false false l = refl
remaining_solid false true true true l = refl
remaining_solid false true true false l = refl
remaining_solid false true false true l = refl
remaining_solid false true false false l = refl
remaining_solid false false true true l = refl
remaining_solid false false true false l = refl
remaining_solid false false false true l = refl
remaining_solid false false false false l = absurd (false≢true l)

-- behind a field stands a comma, where another is missing
pub after_lacking : (r p d e : Bool) → IsTrue (is_lacking r p d e)
    → after r p d e ≡ seq space (comma ▹ remaining r p d e)
after_lacking true true true true l = refl
after_lacking true true true false l = refl
after_lacking true true false true l = refl
after_lacking true true false false l = refl
after_lacking true false true true l = refl
after_lacking true false true false l = refl
after_lacking true false false true l = refl
after_lacking true false false false l = refl
after_lacking false true true true l = refl
after_lacking false true true false l = refl
after_lacking false true false true l = refl
after_lacking false true false false l = refl
after_lacking false false true true l = refl
after_lacking false false true false l = refl
after_lacking false false false true l = refl
after_lacking false false false false l = absurd (false≢true l)

none_misses : (r p d e : Bool) (text : List ℕ) → IsTrue (is_lacking r p d e) → (r ≡ true → BeginsOtherwise 114 text)
    → (p ≡ true → BeginsOtherwise 112 text) → (d ≡ true → BeginsOtherwise 100 text)
    → (e ≡ true → BeginsOtherwise 101 text)
    → Misses (remaining r p d e) text
none_misses r p d e [] l a b g h = remaining_null r p d e l
none_misses r p d e (c ∷ t) l a b g h = none_start r p d e c (λ q. ne_eqb c 114 (a q)) (λ q. ne_eqb c 112 (b q))
    (λ q. ne_eqb c 100 (g q)) (λ q. ne_eqb c 101 (h q))

pub none_picked : (r p d e : Bool) (text : List ℕ) → IsTrue (is_lacking r p d e) → (r ≡ true → BeginsOtherwise 114 text)
    → (p ≡ true → BeginsOtherwise 112 text) → (d ≡ true → BeginsOtherwise 100 text)
    → (e ≡ true → BeginsOtherwise 101 text)
    → Stops (remaining r p d e) text text
none_picked r p d e text l a b g h = Stops-at (remaining r p d e) text (remaining_null r p d e l)
    (none_misses r p d e text l a b g h)
