use Rattle.std.proofs.Common.{◌≡◌, List, ℕ, ap, ◌∙◌}
use Rattle.seal.specs.Aes.{mix_columns, shift_rows, sub_bytes}
use Rattle.seal.specs.Bytes.{xor_bytes}
use Rattle.seal.proofs.LaneLemmas.{zip_is}
use Rattle.seal.proofs.register_aes.round.Goals as goal

pub returns : goal.returns
returns c =
    let shifted : c.shift_rows.result ≡ shift_rows (sub_bytes c.args.s) =
    c.shift_rows.ensures ∙ ap shift_rows c.sub_bytes.ensures in
    zip_is c.mix_columns.result c.args.key
    ∙ ap (λ (l : List ℕ). xor_bytes l c.args.key) (c.mix_columns.ensures ∙ ap mix_columns shifted)
