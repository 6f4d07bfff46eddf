use Rattle.std.proofs.Common.{◌∙◌, ◌++◌, ◌∷◌, [], ℕ, List, ap, codes, map, sym, subst, lit<, string_bytes}
use Rattle.std.proofs.lemmas.Iterator.Consumers.{YieldsList-end}
use Rattle.std.proofs.lemmas.Iterator.Splits.{YieldsList-from_str_split}
use Rattle.std.proofs.lemmas.List.{map_push}
use Rattle.cookie_text.specs.ReadingBack.{Pairwise}
use Rattle.user_agent.specs.KnownDates.{IsKnown}
use Rattle.user_agent.proofs.KnownLemmas.{joined_push, known_push}
use Rattle.user_agent.proofs.known_date.push_known_pieces.Goals as goal

pub loop-piece-preserved : goal.loop-piece-preserved
loop-piece-preserved c =
    let (others, each, joined) = c.loop-piece.invariant in
    let (put, known, bytes) = c.in_ok-push_known.ensures in (
      others ++ put ∷ [],
      subst (λ ps. Pairwise IsKnown ps (others ++ put ∷ []))
          (sym (map_push (λ p. p.now) c.loop-piece.yielded c.in-Some.piece))
          (known_push (map (λ p. p.now) c.loop-piece.yielded) others c.in-Some.piece.now put each known),
      bytes ∙ ap (λ t. t ++ put) (c.in_ok-push_str.ensures.bytes ∙ ap (λ t. t ++ codes ";") joined)
          ∙ sym (joined_push (string_bytes c.args.known.now) others put),
    )

pub returns : goal.returns
returns c =
    let (others, each, joined) = c.loop-piece.invariant in
    let it = c.into_iter-piece-iterator.result in
    let split = YieldsList-from_str_split {s = it} 59 c.args.text.now (lit< tt) (cc) (cc) (cc) in
    let end = YieldsList-end split c.loop-piece.yielded _ c.loop-piece.yielded_by _ _ c.in-None.is c.next.ensures.steps
    in
    (others, subst (λ ps. Pairwise IsKnown ps others) end.0 each, joined)
