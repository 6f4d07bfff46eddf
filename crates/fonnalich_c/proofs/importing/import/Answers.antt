use Rattle.std.proofs.Common.{◌≡◌, subst, FitsSigned, w64}
use Rattle.std.proofs.lemmas.Int.{to_z-of_z}
use Rattle.jiff.specs.Words.{civil_nanos}
use Rattle.fonnalich_c.specs.Given.{nanos_of}
use Rattle.fonnalich_c.specs.Importing.{Imports}
use Rattle.fonnalich_c.proofs.importing.import.Goals as goal

pub returns-clause-ok : goal.returns-clause-ok
returns-clause-ok c =
    let fits : FitsSigned w64 c.args.second = c.ranges.second in
    let moment : civil_nanos c.in_ok-now.now ≡ nanos_of c.args.second = simp to_z-of_z at c.in_ok-now.ensures.ok in
    subst (λ now. Imports now c.args.text.now c.args.client.now c.in_ok-import_at.field-0.items
    c.import_at.new.client) moment c.in_ok-import_at.ensures.ok
