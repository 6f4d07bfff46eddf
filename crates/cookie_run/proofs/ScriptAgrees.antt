-- A script says of moments and removals what a play says of them.
use Rattle.std.proofs.Common.{◌≡◌, ◌*◌, ◌≤ℤ◌, ◌<ℤ◌, pos, ℕ, ℤ, List, [], ◌∷◌, true, false, Option, Some, None, ap}
use Rattle.std.proofs.Common.{arith, refl, ◌∙◌, if◌then◌else◌}
use Rattle.std.specs.Cmp.{int_ranks}
use Rattle.std.specs.Ordering.{MatchOrdering, int_cmp, is_lt}
use Rattle.std.specs.declared.cmp.Ordering.{Ordering}
use Rattle.std.specs.declared.cmp.Ordering.TheVariants.{Less, Equal, Greater}
use Rattle.jiff_core.proofs.SignedLemmas.{signed_arith}
use Rattle.jiff.specs.Types.{DateTime}
use Rattle.jiff.specs.Words.{civil_nanos}
use Rattle.cookie_text.specs.Record.{bare, unsliced}
use Rattle.cookie_client.specs.Jar.{IsRemovalRefusal}
use Rattle.cookie_client.specs.Moment.{second_1971}
use Rattle.cookie_run.specs.ScriptLaws.{LinesGoBack, RemovalsAreRefused, RemovalsRead}
use Rattle.cookie_client.specs.declared.outcome.SessionError.{SessionError}
use Rattle.cookie_client.specs.declared.outcome.SessionError.TheVariants.{Year}
use Rattle.cookie_run.proofs.Removals.{removal_late}

ordered : (o : Ordering) (at last : ℤ) → MatchOrdering o (at <ℤ last) (at ≡ last) (last <ℤ at)
    → (is_lt o ≡ true → at <ℤ last) × (is_lt o ≡ false → last ≤ℤ at)
ordered Less at last m = ((λ e. m), λ e. absurd (cc))
ordered Equal at last m = ((λ e. absurd (cc)), λ e. omega (arith, signed_arith, m))
ordered Greater at last m = ((λ e. absurd (cc)), λ e. omega (arith, signed_arith, m))

pub lines_go_back : LinesGoBack
lines_go_back last at moment =
    let o = ordered (int_cmp at last) at last (int_ranks at last) in
    ((λ e. (moment, o.0 e)), λ e. record { is_moment = moment; in_order = o.1 e })

pub removals_refused : RemovalsAreRefused
removals_refused way [] now refusal late is = is.2
removals_refused way (b ∷ bs) now refusal late is =
    is.2 ∙ ap (λ t. if t then Some Year else None) (removal_late now (unsliced (bare (b ∷ bs) [])) is.0 late is.1)

pub removals_read : RemovalsRead
removals_read way [] told is = is
removals_read way (b ∷ bs) told is = is
