use Rattle.std.proofs.Common.{◌≡◌, ◌∙◌, ◌++◌, ap, codes, string_bytes}
use Rattle.jiff.specs.Words.{civil_nanos}
use Rattle.user_agent.proofs.CutLemmas.{briefed}
use Rattle.user_agent.proofs.KnownLemmas.{lone_piece, lone_reads}
use Rattle.user_agent.proofs.LeftLemmas.{no_life}
use Rattle.user_agent.proofs.cut_life.briefer.Goals as goal

pub returns-then-says_no_life : goal.returns-then-says_no_life
returns-then-says_no_life c =
    no_life (civil_nanos c.args.now) c.args.piece.now (c.says_no_life.ensures c.if-says_no_life.true)

pub returns-in-Ok : goal.returns-in-Ok
returns-in-Ok c =
    let is : c.as_str.result.now ≡ codes "a=;" ++ c.args.piece.now =
    c.as_str.ensures.value ∙ c.in_ok-push_str.ensures.bytes ∙ ap (λ t. t ++ c.args.piece.now) c.in_ok-text.ensures.ok in
    let h = lone_piece c.args.piece.now c.as_str.result.now c.requires is c.in-Ok.cookie c.in-Ok.ensures in
    briefed (civil_nanos c.args.now) c.args.piece.now c.in-Ok.cookie.cookie h.max_age h.expires string_bytes
    c.briefer_for.result c.briefer_for.ensures

pub returns : goal.returns
returns c =
    let is : c.as_str.result.now ≡ codes "a=;" ++ c.args.piece.now =
    c.as_str.ensures.value ∙ c.in_ok-push_str.ensures.bytes ∙ ap (λ t. t ++ c.args.piece.now) c.in_ok-text.ensures.ok in
    absurd (lone_reads c.args.piece.now c.as_str.result.now c.requires is c.in-Err.field-0 c.in-Err.ensures)
