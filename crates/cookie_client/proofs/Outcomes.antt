-- What follows from what an outcome gives.
use Rattle.std.proofs.Common.{Result, Ok, Err}
use Rattle.std.specs.Prelude.{IsErr, IsErrAnd, IfErr, IfOk}

pub ok_gives : {A E : Type 0} (r : Result A E) (P Q : A → Type 0) → ((x : A) → P x → Q x) → IfOk r P → IfOk r Q
ok_gives (Ok x) P Q f h = f x h
ok_gives (Err e) P Q f h = tt

-- an error of a known kind
pub err_gives : {A E : Type 0} (r : Result A E) (Q P : E → Type 0) → IsErr r × IsErrAnd r Q → ((e : E) → Q e → P e)
    → IfErr r P
err_gives (Ok x) Q P h f = tt
err_gives (Err e) Q P h f = f e h.1
