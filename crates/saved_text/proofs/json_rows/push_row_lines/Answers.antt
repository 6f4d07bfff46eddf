use Rattle.std.proofs.Common.{◌++◌, ◌∷◌, [], ap, ◌∙◌, string_bytes}
use Rattle.std.specs.Prelude.{codes}
use Rattle.json.specs.Print.{quoted}
use Rattle.saved_text.specs.Json.{path_lines, domain_lines, expires_lines}
use Rattle.saved_text.specs.Saved.{domain_shown, expires_shown, shown}
use Rattle.saved_text.proofs.PieceLemmas.{steps}
use Rattle.saved_text.proofs.json_rows.push_row_lines.Goals as goal

pub returns : goal.returns
returns c =
    let r = c.args.row.now in
    steps (string_bytes c.args.out.now) (codes "  {\n    \"raw_cookie\": ")
    ((quoted (string_bytes r.raw_cookie)) ∷ (codes ",\n    \"path\": ") ∷ (path_lines (shown r)) ∷ (codes
    ",\n    \"domain\": ") ∷ (domain_lines (domain_shown r.domain)) ∷ (codes
    ",\n    \"expires\": ") ∷ (expires_lines (expires_shown r.expires)) ∷ (codes "\n  }") ∷ [])
    (string_bytes c.push_str-5.new.self) (
      string_bytes c.push_str.new.self,
      c.in_ok-push_str.ensures.bytes,
      (
        string_bytes c.push_string.new.out,
        c.in_ok-push_string.ensures ∙ ap (λ t. string_bytes c.push_str.new.self ++ quoted t) c.deref.ensures,
        (
          string_bytes c.push_str-2.new.self,
          c.in_ok-push_str-2.ensures.bytes,
          (
            string_bytes c.push_path_lines.new.out,
            c.in_ok-push_path_lines.ensures,
            (
              string_bytes c.push_str-3.new.self,
              c.in_ok-push_str-3.ensures.bytes,
              (
                string_bytes c.push_domain_lines.new.out,
                c.in_ok-push_domain_lines.ensures,
                (
                  string_bytes c.push_str-4.new.self,
                  c.in_ok-push_str-4.ensures.bytes,
                  (
                    string_bytes c.push_expires_lines.new.out,
                    c.in_ok-push_expires_lines.ensures,
                    c.in_ok-push_str-5.ensures.bytes,
                  ),
                ),
              ),
            ),
          ),
        ),
      ),
    )
