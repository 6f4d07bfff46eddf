use Rattle.std.proofs.Common.{subst}
use Rattle.cookie_text.specs.Record.{Seen}
use Rattle.cookie_text.specs.Setting.{MakesPermanent}
use Rattle.cookie_text.proofs.builder.Builder+Cookie.permanent.Goals as goal

pub returns : goal.returns
returns c =
    let made : Seen → Type 0 = λ s. MakesPermanent s c.args.now c.make_permanent.new.self in
    subst made c.self.view_is c.make_permanent.ensures
