use Rattle.std.proofs.Common.{◌≡◌, ◌∙◌, Bool, true, false, IsTrue, refl, sym}
use mathlib.Core.Bool.{not}
use Rattle.std.proofs.lemmas.Bool.{false≢true}
use Rattle.std.proofs.lemmas.List.Splits.{slice_split_none}
use Rattle.url.proofs.HostLemmas.{none_from_list_any}
use Rattle.fonnalich_c.specs.Given.{is_line_feed}
use Rattle.fonnalich_c.proofs.given.is_one_part.Goals as goal

not_so : (b : Bool) → IsTrue (not b) → b ≡ false
not_so false so = refl
not_so true so = absurd (false≢true so)

pub returns-clause-part : goal.returns-clause-part
returns-clause-part c = λ so. slice_split_none is_line_feed c.args.text.now
    (none_from_list_any is_line_feed c.args.text.now (sym c.contains.ensures.value ∙ not_so c.contains.result so))
