use Rattle.std.proofs.Common.{◌≡◌, refl, sym, subst}
use Rattle.cookie.specs.Sealing.{IsSealedAs}
use Rattle.cookie.proofs.secure.sealing.opened_value.Goals as goal

pub returns-in-Some : goal.returns-in-Some
returns-in-Some c =
    let decodes = rw c.in-Some.is at c.in_ok-bytes.ensures in
    λ value. (
      λ e. let s = (c.opened_text.ensures value).0 e in
          (s.0, (s.1, s.2, (c.in-Some.bytes.items, s.3, (decodes c.in-Some.bytes.items).0 refl))),
      λ s. let e = (decodes s.1.2.0).1 s.1.2.2 in
          let is : c.in-Some.bytes.items ≡ s.1.2.0 = cc e in
          (c.opened_text.ensures value).1
          (s.0, s.1.0, s.1.1, subst (IsSealedAs c.args.key.now c.args.name.now value s.1.0) (sym is) s.1.2.1),
    )
