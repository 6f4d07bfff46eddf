use Rattle.std.proofs.Common.{◌∙◌, ap, sym, length, subst}
use Rattle.std.specs.Str.{IsUtf8}
use Rattle.cookie.proofs.LawLemmas.{private_back}
use Rattle.cookie.proofs.laws.private_reads_back.Goals as goal

pub returns : goal.returns
returns c =
    private_back c.args.key.now c.args.cookie.now c.lengths.ensures.tag c.opening_is_the_converse.ensures.only
    (ap length (sym c.encryption.ensures.half) ∙ c.encryption.ensures.len) (subst IsUtf8 c.value.ensures c.value.utf8)
