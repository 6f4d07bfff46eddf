use Rattle.std.proofs.Common.{◌+◌, ◌∙◌, drop, ap, sym, arith}
use Rattle.std.proofs.lemmas.List.{drop_all}
use Rattle.publicsuffix.specs.Tree.{hashed}
use Rattle.publicsuffix.proofs.TableLemmas.{hashed_end, hashed_more}
use Rattle.publicsuffix.proofs.tree.hashed.Goals as goal

pub loop-read-preserved : goal.loop-read-preserved
loop-read-preserved c =
    let text = c.args.text.now in
    let read = c.loop-read.read in
    ap (λ h. hashed h (drop (read + 1) text)) c.mixed-hash.ensures
    ∙ sym (hashed_more c.loop-read.hash text read _ (omega arith)) ∙ c.loop-read.invariant

pub returns : goal.returns
returns c =
    let text = c.args.text.now in
    let hash = c.loop-read.hash in
    sym (hashed_end hash) ∙ ap (hashed hash) (sym (drop_all c.loop-read.read text (omega arith)))
    ∙ c.loop-read.invariant
