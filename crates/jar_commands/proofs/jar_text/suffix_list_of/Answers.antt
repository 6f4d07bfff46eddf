use Rattle.std.proofs.Common.{refl}
use Rattle.cookie_client.specs.Loading.{IsSuffixList}
use Rattle.cookie_client.proofs.Loading.{listed}
use Rattle.jar_commands.proofs.ListLemmas.{list_given, list_ruleless, not_listed}
use Rattle.jar_commands.proofs.jar_text.suffix_list_of.Goals as goal

pub returns-in-Ok-clause-ok : goal.returns-in-Ok-clause-ok
returns-in-Ok-clause-ok c =
    let text = c.args.text.now in
    let is : IsSuffixList text c.in-Ok.list =
    (listed text c.in-Ok.list c.in-Ok.ensures.not_text, c.in-Ok.ensures.rules.0) in
    list_given c.with_rule.result text c.in-Ok.list is c.in-Ok.ensures.rules.1 c.with_rule.ensures.ok

pub returns-in-Ok-clause-err : goal.returns-in-Ok-clause-err
returns-in-Ok-clause-err c =
    let text = c.args.text.now in
    let is : IsSuffixList text c.in-Ok.list =
    (listed text c.in-Ok.list c.in-Ok.ensures.not_text, c.in-Ok.ensures.rules.0) in
    list_ruleless c.with_rule.result text c.in-Ok.list is c.with_rule.ensures.err

pub returns-in-Err-clause-err : goal.returns-in-Err-clause-err
returns-in-Err-clause-err c =
    not_listed _ c.args.text.now c.in-Err.cause c.unlisted.result refl c.unlisted.ensures c.in-Err.ensures.not_text
    c.in-Err.ensures.fault
