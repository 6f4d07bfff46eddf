use Rattle.seal.proofs.register_aes.shift_rows.Goals as goal

pub returns : goal.returns
returns c = c.shuffled.ensures
