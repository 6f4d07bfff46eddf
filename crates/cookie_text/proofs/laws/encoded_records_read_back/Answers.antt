use Rattle.cookie_text.proofs.ReadsBack.{reads_back}
use Rattle.cookie_text.proofs.laws.encoded_records_read_back.Goals as goal

pub returns : goal.returns
returns c = reads_back
