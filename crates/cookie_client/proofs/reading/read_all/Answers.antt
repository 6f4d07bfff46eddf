use Rattle.std.proofs.Common.{[], ◌++◌, ◌∙◌}
use Rattle.std.specs.Option.{option_to_list}
use Rattle.cookie_client.specs.Jar.{record_in}
use Rattle.cookie_client.proofs.ReadCode.{give_none, give_more}
use Rattle.cookie_client.proofs.Sessions.{holds_none, holds_next, holds_past}
use Rattle.cookie_client.proofs.reading.read_all.Goals as goal
use Rattle.cookie_client.proofs.reading.read_all.Goals.{in-Some+in_ok-add_original, in_default}

pub loop-piece-init : goal.loop-piece-init
loop-piece-init c = ([], give_none c.args.shown, holds_none c.new-jar.result c.new-jar.ensures)

pub loop-piece-preserved : goal.loop-piece-preserved
loop-piece-preserved c =
    let old = c.loop-piece.invariant in
    let read = record_in c.in_ok-cookie.field-0 in
    let give = give_more c.args.shown c.args.pieces.now c.loop-piece.piece-index _ old.0 read c.loop-piece-test.true
    old.1 c.in_ok-cookie.ensures in
    elim c.match-branch-2.branch [
      | in-Some+in_ok-add_original w ↦ (
        old.0 ++ option_to_list read,
        give,
        holds_next old.0 c.loop-piece.jar c.match-branch-2.jar
            c.in_ok-cookie.field-0 w.in-Some.cookie w.in-Some.is old.2 (w.jar-is ∙ w.in_ok-add_original.ensures.ok),
      )
      | in_default w ↦ (
        old.0 ++ option_to_list read,
        give,
        holds_past old.0 c.loop-piece.jar c.match-branch-2.jar
            c.in_ok-cookie.field-0 w.in_default.is old.2 w.jar-is,
      )
    ]
