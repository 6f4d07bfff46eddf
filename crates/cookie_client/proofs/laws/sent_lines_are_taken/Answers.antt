use Rattle.cookie_client.proofs.laws.sent_lines_are_taken.Goals as goal
use Rattle.cookie_client.proofs.SentLines.{sent_taken}

pub returns : goal.returns
returns c = sent_taken c.encoded_records_read_back.ensures
