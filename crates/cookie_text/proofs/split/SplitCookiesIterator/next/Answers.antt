use Rattle.std.proofs.Common.{refl}
use Rattle.cookie_text.proofs.split.SplitCookiesIterator.next.Goals as goal

pub returns-in_ok-piece-in-Plain-clause-steps : goal.returns-in_ok-piece-in-Plain-clause-steps
returns-in_ok-piece-in-Plain-clause-steps c =
    rw (← c.self.view_is, c.in-Plain.is) (record {
      piece = c.in_ok-piece-in-Plain.piece.now;
      split = c.in_ok-piece-in-Plain.ensures;
      outcome = c.parse.ensures;
      way = refl;
    })

pub returns-in_ok-piece-in-Encoded-clause-steps : goal.returns-in_ok-piece-in-Encoded-clause-steps
returns-in_ok-piece-in-Encoded-clause-steps c =
    rw (← c.self.view_is, c.in-Encoded.is) (record {
      piece = c.in_ok-piece-in-Encoded.piece.now;
      split = c.in_ok-piece-in-Encoded.ensures;
      outcome = c.parse_encoded.ensures;
      way = refl;
    })
