use Rattle.std.proofs.Common.{◌<◌, ◌∙◌, lit<, sym, arith}
use Rattle.std.specs.Prelude.{unwrap_or}
use Rattle.std.proofs.lemmas.Grind.{common_steps}
use Rattle.std.proofs.lemmas.Str.Pattern.{rfind_char}
use Rattle.store_parts.proofs.PathLemmas.{default_path-found, default_path-not_found}
use Rattle.store_parts.proofs.cookie_path.default_path_in.Goals as goal

pub returns-then-last-eq0 : goal.returns-then-last-eq0
returns-then-last-eq0 c =
    let found = rfind_char 47 c.args.uri_path.now c.rfind.result c.rfind.ensures.cases (lit< tt) in
    sym (default_path-not_found c.args.uri_path.now c.rfind.result found
    (sym c.unwrap_or-last.ensures ∙ c.if-last-eq0.true))

pub returns-else-last-eq0 : goal.returns-else-last-eq0
returns-else-last-eq0 c =
    let found = rfind_char 47 c.args.uri_path.now c.rfind.result c.rfind.ensures.cases (lit< tt) in
    let pos : 0 < unwrap_or c.rfind.result 0 = omega arith in
    let front = default_path-found c.args.uri_path.now c.rfind.result found pos in
    grind (arith, common_steps, c.range.ensures.value, c.unwrap_or-last.ensures, front)
