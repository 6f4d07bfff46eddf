use Rattle.std.proofs.Common.{◌∙◌, ◌++◌, ◌∷◌, [], ap, codes, map, sym, subst, lit<, string_bytes}
use Rattle.std.proofs.lemmas.Iterator.Consumers.{YieldsList-end}
use Rattle.std.proofs.lemmas.Iterator.Splits.{YieldsList-from_str_split}
use Rattle.std.proofs.lemmas.List.{map_push}
use Rattle.cookie_text.specs.ReadingBack.{Pairwise}
use Rattle.jiff.specs.Words.{civil_nanos}
use Rattle.user_agent.specs.CutLives.{IsCut}
use Rattle.user_agent.proofs.CutLemmas.{cut_push}
use Rattle.user_agent.proofs.KnownLemmas.{joined_push}
use Rattle.user_agent.proofs.cut_life.push_cut_pieces.Goals as goal

pub loop-piece-preserved : goal.loop-piece-preserved
loop-piece-preserved c =
    let (others, each, joined) = c.loop-piece.invariant in
    let (put, is_cut, bytes) = c.in_ok-push_cut.ensures in (
      others ++ put ∷ [],
      subst (λ ps. Pairwise (IsCut (civil_nanos c.args.now)) ps (others ++ put ∷ []))
          (sym (map_push (λ p. p.now) c.loop-piece.yielded c.in-Some.piece))
          (cut_push (civil_nanos c.args.now) (map (λ p. p.now) c.loop-piece.yielded) others c.in-Some.piece.now put each
          is_cut),
      bytes ∙ ap (λ t. t ++ put) (c.in_ok-push_str.ensures.bytes ∙ ap (λ t. t ++ codes ";") joined)
          ∙ sym (joined_push (string_bytes c.args.cut.now) others put),
    )

pub returns : goal.returns
returns c =
    let (others, each, joined) = c.loop-piece.invariant in
    let it = c.into_iter-piece-iterator.result in
    let split = YieldsList-from_str_split {s = it} 59 c.args.text.now (lit< tt) (cc) (cc) (cc) in
    let end = YieldsList-end split c.loop-piece.yielded _ c.loop-piece.yielded_by _ _ c.in-None.is c.next.ensures.steps
    in
    (others, subst (λ ps. Pairwise (IsCut (civil_nanos c.args.now)) ps others) end.0 each, joined)
