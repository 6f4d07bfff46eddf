use Rattle.std.proofs.Common.{◌≡◌, take, true}
use Rattle.std.specs.Prelude.{map}
use Rattle.std.specs.List.{list_all}
use Rattle.std.specs.Str.{is_utf8}
use Rattle.cookie_run.proofs.script.field.texts_of.Given as goal

abbrev pub invariant-loop-field : goal.invariant-loop-field
invariant-loop-field l = record {
  texts : map (λ text. text.now) l.texts.items ≡ map (λ field. field.items) (take l.field-index l.fields);
  utf8 : list_all is_utf8 (map (λ field. field.items) (take l.field-index l.fields)) ≡ true;
}
