use Rattle.std.proofs.Common.{◌<◌, ◌∙◌, ap, length, subst, sym}
use Rattle.std.proofs.lemmas.Bool.{both_ways}
use Rattle.percent_encoding.specs.Percent.{percent_decode}
use Rattle.cookie_text.specs.Printing.{is_set}
use Rattle.cookie_text.specs.Record.{Seen}
use Rattle.user_agent.specs.SecureWins.{is_in}
use Rattle.user_agent.proofs.IntegrityLemmas.{set_not}
use Rattle.user_agent.proofs.WinningLemmas.{plain_more, secure_more}
use Rattle.user_agent.proofs.secure_wins.secure_names.Goals.{then-is_marked_secure+in_ok-decoded+in_ok-insert}
use Rattle.user_agent.proofs.secure_wins.secure_names.Goals.{else-is_marked_secure}
use Rattle.user_agent.proofs.secure_wins.secure_names.Goals as goal

pub loop-i-preserved : goal.loop-i-preserved
loop-i-preserved c = λ name.
    let within : c.loop-i.i < length c.args.cookies.now.items =
    subst (λ n. c.loop-i.i < n) (c.len-i-end.ensures ∙ c.args.cookies.now.ok.0) c.loop-i-test.true in
    elim c.if-is_marked_secure.branch [
      | then-is_marked_secure+in_ok-decoded+in_ok-insert w ↦
          ap (λ ns. is_in ns name) w.names-is
          ∙ (secure_more c.args.cookies.now.items c.loop-i.i c.index-cookie.result.now within c.index-cookie.ensures
          name c.loop-i.names _ _ w.in_ok-insert.ensures.keys
          (w.in_ok-decoded.ensures
          ∙ ap percent_decode (w.name.ensures ∙ ap (λ (s : Seen). s.cookie.name) w.raw-then-is_marked_secure.ensures))
          (ap (λ (s : Seen). is_set s.cookie.secure) (sym c.raw.ensures)
          ∙ ap is_set (c.is_marked_secure.ensures.0 w.if-is_marked_secure.true)) (c.loop-i.invariant name))
      | else-is_marked_secure w ↦
          ap (λ ns. is_in ns name) w.names-is
          ∙ (plain_more c.args.cookies.now.items c.loop-i.i c.index-cookie.result.now within c.index-cookie.ensures
          name c.loop-i.names
          (ap (λ (s : Seen). is_set s.cookie.secure) (sym c.raw.ensures)
          ∙ set_not _ (λ e. both_ways _ w.if-is_marked_secure.false (c.is_marked_secure.ensures.1 e)))
          (c.loop-i.invariant name))
    ]
