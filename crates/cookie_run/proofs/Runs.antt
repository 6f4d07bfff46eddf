-- A play goes on by one step.
use Rattle.std.proofs.lemmas.List.{take_more}
use Rattle.cookie_run.specs.declared.step.Step.{Step}
use Rattle.cookie_run.specs.Acts.{act_of, acts_of}
use Rattle.std.proofs.Common.{◌≡◌, ℕ, ◌+◌, ◌<◌, length, take, get_or, Result, Ok, Err, OnOk}
use Rattle.std.proofs.Common.{OnErr}
use Rattle.std.proofs.Common.{List, [], ◌∷◌, ◌++◌, sym, refl, ap, ◌∙◌, subst, append_assoc, zero, suc, arith}
use Rattle.cookie_client.specs.Steps.{Act}
use Rattle.cookie_client.specs.declared.command.Reading.{Reading}
use Rattle.cookie_client.specs.declared.command.Command.{Command}
use Rattle.cookie_text.specs.Record.{Seen}
use Rattle.cookie_client.specs.declared.way.Way.{Way}
use Rattle.cookie_client.specs.declared.way.Way.TheVariants.{Plain, Host, Secure, Signed, Sealed}
use Rattle.cookie_client.specs.Jar.{Keyed, IsKeptAs, IsRemovalRefusal, Sets, sent}
use Rattle.cookie_client.specs.PlainSets.{any_nonce}
use Rattle.cookie_run.specs.Readings.{all_told}
use Rattle.cookie_client.specs.declared.outcome.SessionError.{SessionError}
use Rattle.cookie_client.specs.declared.outcome.SessionError.TheVariants.{EmptyName, Year, Rng}
use Rattle.std.specs.List.{AllByRecursion}
use Rattle.std.proofs.Common.{Bool, true, false, cond, Some, None}
use Rattle.jiff.specs.Types.{DateTime}
use Rattle.cookie_text.specs.Normal.{is_short_year}

pub told_more : (told : List (List Reading)) (t : List Reading) → all_told (told ++ t ∷ []) ≡ all_told told ++ t
told_more [] t = append_nil t
  where
    append_nil : (xs : List Reading) → xs ++ [] ≡ xs
    append_nil [] = refl
    append_nil (x ∷ xs) = ap (λ ys. x ∷ ys) (append_nil xs)
told_more (u ∷ us) t = ap (λ x. u ++ x) (told_more us t) ∙ sym (append_assoc u (all_told us) t)

acts_append : (xs ys : List Step) → acts_of (xs ++ ys) ≡ acts_of xs ++ acts_of ys
acts_append [] ys = refl
acts_append (x ∷ xs) ys = ap (λ zs. act_of x ∷ zs) (acts_append xs ys)

pub acts_more : (steps : List Step) (i : ℕ) (s : Step) → i < length steps → s ≡ get_or steps i s
    → acts_of (take (i + 1) steps) ≡ acts_of (take i steps) ++ act_of s ∷ []
acts_more steps i s h is = ap acts_of (take_more steps i s h)
    ∙ (acts_append (take i steps) (get_or steps i s ∷ []) ∙ ap (λ x. acts_of (take i steps) ++ act_of x ∷ []) (sym is))

pub on_ok : {A E : Type 0} (r : Result A E) (P Q : Type 0) → (P → Q) → OnOk r P → OnOk r Q
on_ok (Ok x) P Q f h = f h
on_ok (Err e) P Q f h = tt

pub on_err_any : {A E : Type 0} (r : Result A E) (P : Type 0) → P → OnErr r P
on_err_any (Ok x) P p = tt
on_err_any (Err e) P p = p

pub readings_nil : (xs : List Reading) → xs ++ [] ≡ xs
readings_nil [] = refl
readings_nil (x ∷ xs) = ap (λ ys. x ∷ ys) (readings_nil xs)

-- ---- what the generator tells

pub all_push : {A : Type 0} (P : A → Type 0) (xs : List A) (x : A) → AllByRecursion P xs → P x
    → AllByRecursion P (xs ++ x ∷ [])
all_push P [] x h p = (p, tt)
all_push P (y ∷ ys) x h p = (h.0, all_push P ys x h.1 p)

pub command_at : (P : Command → Type 0) (cs : List Command) (i : ℕ) (c : Command) → i < length cs → c ≡ get_or cs i c
    → AllByRecursion P cs → P c
command_at P [] i c h is all = absurd (omega arith)
command_at P (d ∷ cs) zero c h is all = subst P (sym is) all.0
command_at P (d ∷ cs) (suc i) c h is all = command_at P cs i c (omega arith) is all.1

pub act_at : (P : Act → Type 0) (steps : List Step) (i : ℕ) (s : Step) → i < length steps → s ≡ get_or steps i s
    → AllByRecursion P (acts_of steps) → P (act_of s)
act_at P [] i s h is all = absurd (omega arith)
act_at P (x ∷ xs) zero s h is all = subst (λ y. P (act_of y)) (sym is) all.0
act_at P (x ∷ xs) (suc i) s h is all = act_at P xs i s (omega arith) is all.1

-- ---- whatever the nonces

kept_any : (May : List ℕ → Type 0) (key : List ℕ) (way : Way) (s kept : Seen) → IsKeptAs May key way s kept
    → IsKeptAs any_nonce key way s kept
kept_any May key Plain s kept k = k
kept_any May key Host s kept k = k
kept_any May key Secure s kept k = k
kept_any May key Signed s kept k = k
kept_any May key Sealed s kept k = (k.0, tt, k.2)

pub sets_any : (May : List ℕ → Type 0) (old : Keyed) (way : Way) (s : Seen) (new : Keyed) → Sets May old way s new
    → Sets any_nonce old way s new
sets_any May old way s new h = record {
  name = h.name;
  value = h.value;
  age = h.age;
  accepted = h.accepted;
  key_is = h.key_is;
  keeps = (h.keeps.0, kept_any May old.key way (sent s) h.keeps.0 h.keeps.1, h.keeps.2);
}

-- ---- a removal

-- a removal is never refused for a fill
pub removal_fills : (name : List ℕ) (now : DateTime) (error : SessionError) → IsRemovalRefusal name now (Some error)
    → error ≡ Rng → ⊥
removal_fills [] now error is e = not_empty (some_same is.2 ∙ e)
  where
    some_same : {x y : SessionError} → Some x ≡ Some y → y ≡ x
    some_same same = cc

    not_empty : EmptyName ≡ Rng → ⊥
    not_empty same = cc
removal_fills (b ∷ bs) now error is e = year (is_short_year is.0.cookie.expires) (sym is.2 ∙ refl)
  where
    year : (short : Bool) → cond short (Some Year) None ≡ Some error → ⊥
    year true same = cc
    year false same = cc
