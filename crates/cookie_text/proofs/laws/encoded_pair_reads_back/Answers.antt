use Rattle.std.proofs.Common.{subst}
use Rattle.std.specs.Str.{IsUtf8}
use Rattle.cookie_text.proofs.PairsBack.{pair_back}
use Rattle.cookie_text.proofs.laws.encoded_pair_reads_back.Goals as goal

pub returns : goal.returns
returns c =
    let r = c.args.cookie.now.cookie in
    pair_back r.name r.value (record {
      some = c.requires;
      text = subst IsUtf8 c.name.ensures c.name.utf8;
      value_text = subst IsUtf8 c.value.ensures c.value.utf8;
    })
