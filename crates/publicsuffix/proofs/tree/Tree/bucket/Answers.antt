use Rattle.std.proofs.Common.{◌%◌, ◌∙◌, ap}
use Rattle.publicsuffix.specs.Tree.{hashed}
use Rattle.publicsuffix.proofs.tree.Tree.bucket.Goals as goal

pub returns : goal.returns
returns c =
    let heads = c.args.self.now.heads in
    ap (λ h. h % c.len.result) c.hashed.ensures
    ∙ ap (λ n. hashed c.args.at c.args.text.now % n) (c.len.ensures ∙ heads.ok.0)
