use Rattle.std.proofs.Common.{◌+◌, inr, subst, sym}
use Rattle.place_index.specs.Index.{last}
use Rattle.place_index.specs.PathParts.{LengthensAny}
use Rattle.place_index.specs.Putting.{Puts}
use Rattle.place_index.specs.declared.part.DomainRows.{DomainRows}
use Rattle.place_index.proofs.PuttingLemmas.{end_inside, puts_before_others, puts_at_end, still_begin}
use Rattle.place_index.proofs.putting.put.Goals.{then-at-domain, else-at-domain}
use Rattle.place_index.proofs.putting.put.Goals as goal

pub move_from-requires : goal.move_from-requires
move_from-requires c =
    let path = c.args.path.now in
    let name = c.args.name.now in
    let old = c.args.domain.now in
    still_begin path name old.paths c.lengthen.new.paths c.in-Some.at last
    (end_inside old last c.requires.room c.requires.inside)
    (subst (LengthensAny path name old.paths c.lengthen.new.paths) c.in-Some.is c.in_ok-at.ensures.ok)

pub returns-after-at-domain-clause-ok : goal.returns-after-at-domain-clause-ok
returns-after-at-domain-clause-ok c =
    let path = c.args.path.now in
    let old = c.args.domain.now in
    let name = c.args.name.now in
    let at = c.in-Some.at in
    let paths = c.lengthen.new.paths in
    let l = subst (LengthensAny path name old.paths paths) c.in-Some.is c.in_ok-at.ensures.ok in
    let puts = λ (d : DomainRows). Puts path name old (record { len = d.len + 1; paths = d.paths }) at in
    elim c.if-at-domain.branch [
      | then-at-domain w ↦
          subst puts (sym w.domain-is)
          (inr (puts_before_others path name old l.part at l.there l.at_end c.requires.inside paths l.is
          w.move_from.new.self w.move_from.ensures))
      | else-at-domain w ↦
          subst puts (sym w.domain-is)
          (inr (puts_at_end path name old l.part at l.there l.at_end c.requires.inside paths l.is
          w.if-at-domain.false))
    ]
