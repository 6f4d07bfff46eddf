use Rattle.std.proofs.Common.{length}
use Rattle.saved_text.proofs.ron_parts.+bytes_of.Given as goal

abbrev pub decreases-bytes_of : goal.decreases-bytes_of
decreases-bytes_of l = length l.bytes.now
