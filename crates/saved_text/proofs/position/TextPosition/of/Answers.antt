use Rattle.std.proofs.Common.{◌+◌, ◌==◌, ap, ◌∙◌, subst}
use Rattle.std.specs.List.{count_by}
use Rattle.saved_text.specs.Position.{IsLastLine}
use Rattle.saved_text.proofs.position.TextPosition.of.Goals as goal

pub returns : goal.returns
returns c =
    let front = c.front_of-front.ensures in
    record {
      start = front.0;
      character = front.1;
      begun = c.last_line.result.now;
      last = subst (λ l. IsLastLine l c.last_line.result.now) front.2 c.last_line.ensures;
      line =
          ap (λ n. n + 1) (c.line_feeds.ensures ∙ ap (count_by (λ b. b == 10)) (c.as_bytes.ensures.value ∙ front.2));
      column = c.column_behind.ensures;
    }
