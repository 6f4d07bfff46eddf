use Rattle.std.proofs.Common.{refl, ap, ◌∙◌, ◌++◌, string_bytes}
use Rattle.cookie_text.specs.Printing.{attributes_of, piece_text}
use Rattle.cookie_text.proofs.PushLemmas.{pushed}
use Rattle.cookie_text.proofs.display.push_attributes.Goals as goal

pub returns : goal.returns
returns c =
    let attributes = attributes_of c.args.cookie.now.cookie in
    pushed (string_bytes c.args.text.now) attributes (string_bytes c.push_piece-8.new.text) (
      string_bytes c.push_piece.new.text,
      c.in_ok-push_piece.ensures
          ∙ ap (λ x. string_bytes c.args.text.now ++ piece_text x) c.http_only_printed.ensures,
      (
        string_bytes c.push_piece-2.new.text,
        c.in_ok-push_piece-2.ensures
            ∙ ap (λ x. string_bytes c.push_piece.new.text ++ piece_text x) c.same_site_printed.ensures,
        (
          string_bytes c.push_piece-3.new.text,
          c.in_ok-push_piece-3.ensures
              ∙ ap (λ x. string_bytes c.push_piece-2.new.text ++ piece_text x) c.partitioned_printed.ensures,
          (
            string_bytes c.push_piece-4.new.text,
            c.in_ok-push_piece-4.ensures
                ∙ ap (λ x. string_bytes c.push_piece-3.new.text ++ piece_text x) c.secure_printed.ensures,
            (
              string_bytes c.push_piece-5.new.text,
              c.in_ok-push_piece-5.ensures
                  ∙ ap (λ x. string_bytes c.push_piece-4.new.text ++ piece_text x) c.path_printed.ensures,
              (
                string_bytes c.push_piece-6.new.text,
                c.in_ok-push_piece-6.ensures
                    ∙ ap (λ x. string_bytes c.push_piece-5.new.text ++ piece_text x) c.domain_printed.ensures,
                (
                  string_bytes c.push_piece-7.new.text,
                  c.in_ok-push_piece-7.ensures
                      ∙ ap (λ x. string_bytes c.push_piece-6.new.text ++ piece_text x) c.max_age_printed.ensures,
                  (
                    string_bytes c.push_piece-8.new.text,
                    c.in_ok-push_piece-8.ensures
                        ∙ ap (λ x. string_bytes c.push_piece-7.new.text ++ piece_text x) c.expires_printed.ensures,
                    refl,
                  ),
                ),
              ),
            ),
          ),
        ),
      ),
    )
