use Rattle.std.proofs.Common.{ap, subst, sym}
use Rattle.std.specs.Str.{IsUtf8}
use Rattle.std.proofs.lemmas.Str.{IsUtf8-string_bytes}
use Rattle.cookies_txt.specs.Writing.{AreHeld}
use Rattle.cookie_jar.proofs.SavingLemmas.{held_all}
use Rattle.cookie_jar.proofs.saving.txt.Goals as goal

pub returns-in-Ok-clause-all : goal.returns-in-Ok-clause-all
returns-in-Ok-clause-all c =
    λ e. held_all c.args.store.now.rows (subst AreHeld c.in_ok-rows.ensures (c.in-Ok.ensures.all e))

pub returns-in-Ok-clause-utf8 : goal.returns-in-Ok-clause-utf8
returns-in-Ok-clause-utf8 c =
    subst IsUtf8 (sym (ap (λ v. v.items) c.into_bytes.ensures.value)) (IsUtf8-string_bytes c.in-Ok.written.text)
