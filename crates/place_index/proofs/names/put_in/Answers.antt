use Rattle.std.proofs.Common.{◌≡◌, ◌∙◌, ◌++◌, ◌∷◌, [], ap, map, refl, subst, sym}
use Rattle.std.specs.Prelude.{OnOk, string_bytes}
use Rattle.place_index.proofs.NameLemmas.{insert_key-new}
use Rattle.place_index.proofs.names.put_in.Goals.{in-Ok, in-Err}
use Rattle.place_index.proofs.names.put_in.Goals as goal

pub returns-clause-ok : goal.returns-clause-ok
returns-clause-ok c =
    let held = map string_bytes c.insert.new.self.keys
    ≡ map string_bytes c.args.table.now.keys ++ string_bytes c.args.text ∷ [] in
    elim c.match-insert.branch [
      | in-Ok w ↦
          subst (λ r. OnOk r held) (sym w.result-is)
          (ap (map string_bytes) w.in-Ok.ensures.keys
          ∙ insert_key-new c.args.text (string_bytes c.args.text) c.args.table.now.keys refl c.requires)
      | in-Err w ↦ subst (λ r. OnOk r held) (sym w.result-is) tt
    ]
