use Rattle.std.proofs.Common.{◌++◌, ◌∷◌, [], ap, ◌∙◌, string_bytes}
use Rattle.std.specs.Prelude.{codes}
use Rattle.json.specs.Print.{quoted}
use Rattle.saved_text.specs.Json.{bool_text}
use Rattle.saved_text.proofs.PieceLemmas.{steps, bool_same}
use Rattle.saved_text.proofs.json_rows.push_path_lines.Goals as goal

pub returns : goal.returns
returns c =
    let r = c.args.row.now in
    steps (string_bytes c.args.out.now) (codes "[\n      ")
    ((quoted (string_bytes r.path)) ∷ (codes ",\n      ") ∷ (bool_text r.is_from_path_attr) ∷ (codes
    "\n    ]") ∷ []) (string_bytes c.push_str-3.new.self) (
      string_bytes c.push_str.new.self,
      c.in_ok-push_str.ensures.bytes,
      (
        string_bytes c.push_string.new.out,
        c.in_ok-push_string.ensures ∙ ap (λ t. string_bytes c.push_str.new.self ++ quoted t) c.deref.ensures,
        (
          string_bytes c.push_str-2.new.self,
          c.in_ok-push_str-2.ensures.bytes,
          (
            string_bytes c.push_bool.new.out,
            c.in_ok-push_bool.ensures
                ∙ ap (λ t. string_bytes c.push_str-2.new.self ++ t) (bool_same r.is_from_path_attr),
            c.in_ok-push_str-3.ensures.bytes,
          ),
        ),
      ),
    )
