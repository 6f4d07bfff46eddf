-- Texts that are one or two.
use Rattle.std.proofs.Common.{◌≡◌, ◌≢◌, ℕ, Bool, true, false, List, sym, ⊎_elim, Some, None, []}
use Rattle.std.specs.Str.{bytes_eq, IsUtf8}
use Rattle.std.proofs.lemmas.Bool.{cases_Bool, both_ways}
use Rattle.std.proofs.lemmas.Slice.Eq.{bytes_eq-Decides}
use Rattle.std.proofs.lemmas.Str.{IsUtf8-from_ascii}
use Rattle.std.proofs.lemmas.Str.Ascii.{IsAscii-nil}

pub same_text : (x y : List ℕ) → bytes_eq x y ≡ true → x ≡ y
same_text x y e = (bytes_eq-Decides x y).0 e

pub text_is : (x y : List ℕ) → x ≡ y → bytes_eq x y ≡ true
text_is x y e = (bytes_eq-Decides x y).1 e

pub other_text : (x y : List ℕ) → x ≢ y → bytes_eq x y ≡ false
other_text x y h = ⊎_elim (λ e. absurd (h (same_text x y e))) (λ e. e) (cases_Bool (bytes_eq x y))

pub texts_differ : (x y : List ℕ) → bytes_eq x y ≡ false → x ≢ y
texts_differ x y e same = both_ways _ e (text_is x y same)

-- the other way round
pub turned : (x y : List ℕ) (b : Bool) → bytes_eq x y ≡ b → bytes_eq y x ≡ b
turned x y true e = text_is y x (sym (same_text x y e))
turned x y false e = other_text y x (λ same. texts_differ x y e (sym same))

pub some_is_not_none : {A : Type 0} (v : A) → Some v ≢ None
some_is_not_none v e = cc

pub nil_utf8 : IsUtf8 []
nil_utf8 = IsUtf8-from_ascii [] IsAscii-nil
