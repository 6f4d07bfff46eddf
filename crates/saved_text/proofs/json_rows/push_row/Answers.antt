use Rattle.std.proofs.Common.{◌++◌, ◌∷◌, [], ap, ◌∙◌, string_bytes}
use Rattle.std.specs.Prelude.{codes}
use Rattle.json.specs.Print.{quoted}
use Rattle.saved_text.specs.Json.{bool_text, domain_json, expires_text}
use Rattle.saved_text.specs.Saved.{domain_shown, expires_shown}
use Rattle.saved_text.proofs.PieceLemmas.{steps, bool_same}
use Rattle.saved_text.proofs.json_rows.push_row.Goals as goal

pub returns : goal.returns
returns c =
    let r = c.args.row.now in
    steps (string_bytes c.args.out.now) (codes "{\"raw_cookie\":")
    ((quoted (string_bytes r.raw_cookie)) ∷ (codes ",\"path\":[") ∷ (quoted (string_bytes r.path)) ∷ (codes
    ",") ∷ (bool_text r.is_from_path_attr) ∷ (codes "],\"domain\":") ∷ (domain_json
    (domain_shown r.domain)) ∷ (codes ",\"expires\":") ∷ (expires_text (expires_shown r.expires)) ∷ (codes
    "}") ∷ []) (string_bytes c.push_str-6.new.self) (
      string_bytes c.push_str.new.self,
      c.in_ok-push_str.ensures.bytes,
      (
        string_bytes c.push_string.new.out,
        c.in_ok-push_string.ensures ∙ ap (λ t. string_bytes c.push_str.new.self ++ quoted t) c.deref.ensures,
        (
          string_bytes c.push_str-2.new.self,
          c.in_ok-push_str-2.ensures.bytes,
          (
            string_bytes c.push_string-2.new.out,
            c.in_ok-push_string-2.ensures ∙ ap (λ t. string_bytes c.push_str-2.new.self ++ quoted t) c.deref-2.ensures,
            (
              string_bytes c.push_str-3.new.self,
              c.in_ok-push_str-3.ensures.bytes,
              (
                string_bytes c.push_bool.new.out,
                c.in_ok-push_bool.ensures
                    ∙ ap (λ t. string_bytes c.push_str-3.new.self ++ t) (bool_same r.is_from_path_attr),
                (
                  string_bytes c.push_str-4.new.self,
                  c.in_ok-push_str-4.ensures.bytes,
                  (
                    string_bytes c.push_domain.new.out,
                    c.in_ok-push_domain.ensures,
                    (
                      string_bytes c.push_str-5.new.self,
                      c.in_ok-push_str-5.ensures.bytes,
                      (
                        string_bytes c.push_expires.new.out,
                        c.in_ok-push_expires.ensures,
                        c.in_ok-push_str-6.ensures.bytes,
                      ),
                    ),
                  ),
                ),
              ),
            ),
          ),
        ),
      ),
    )
