use Rattle.saved_text.proofs.RonLemmas.{ascii_first}
use Rattle.saved_text.proofs.ron_text.tail.Goals as goal

pub split_at-requires : goal.split_at-requires
split_at-requires c = ascii_first c.args.text.now c.requires c.utf8.text
