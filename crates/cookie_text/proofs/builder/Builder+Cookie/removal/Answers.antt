use Rattle.std.proofs.Common.{subst}
use Rattle.cookie_text.specs.Record.{Seen}
use Rattle.cookie_text.specs.Setting.{MakesRemoval}
use Rattle.cookie_text.proofs.builder.Builder+Cookie.removal.Goals as goal

pub returns : goal.returns
returns c =
    let made : Seen → Type 0 = λ s. MakesRemoval s c.args.now c.make_removal.new.self in
    subst made c.self.view_is c.make_removal.ensures
