use Rattle.std.proofs.Common.{◌≡◌, ◌++◌, ap, ◌∙◌, append_assoc, string_bytes}
use Rattle.std.specs.Prelude.{codes}
use Rattle.saved_text.specs.Written.{quoted}
use Rattle.saved_text.specs.RonLayout.{bool_layout, domain_layout, expires_layout}
use Rattle.saved_text.specs.Saved.{domain_shown, expires_shown}
use Rattle.saved_text.proofs.ron_rows.push_row.Goals as goal

pub returns : goal.returns
returns c =
    let r = c.args.row.now in
    let raw : string_bytes c.push_quoted.new.out ≡ string_bytes c.push_str.new.self ++ quoted
    (string_bytes r.raw_cookie) = c.in_ok-push_quoted.ensures
    ∙ ap (λ t. string_bytes c.push_str.new.self ++ quoted t) c.deref.ensures in
    let path : string_bytes c.push_quoted-2.new.out ≡ string_bytes c.push_str-2.new.self ++ quoted
    (string_bytes r.path) = c.in_ok-push_quoted-2.ensures ∙ ap (λ t. string_bytes c.push_str-2.new.self ++ quoted t)
    c.deref-2.ensures in
    let h10 : string_bytes c.push_str-6.new.self ≡ string_bytes c.push_expires.new.out ++ (codes ",\n    ),\n") =
    c.in_ok-push_str-6.ensures.bytes in
    let h9 : string_bytes c.push_str-6.new.self ≡ string_bytes
    c.push_str-5.new.self ++ ((expires_layout (expires_shown r.expires)) ++ (codes ",\n    ),\n")) = h10
    ∙ ap (λ q. q ++ (codes ",\n    ),\n")) c.in_ok-push_expires.ensures
    ∙ append_assoc (string_bytes c.push_str-5.new.self) (expires_layout (expires_shown r.expires))
    (codes ",\n    ),\n") in
    let h8 : string_bytes c.push_str-6.new.self ≡ string_bytes
    c.push_domain.new.out ++ ((codes ",\n        expires: ") ++ ((expires_layout
    (expires_shown r.expires)) ++ (codes ",\n    ),\n"))) = h9
    ∙ ap (λ q. q ++ ((expires_layout (expires_shown r.expires)) ++ (codes ",\n    ),\n")))
    c.in_ok-push_str-5.ensures.bytes
    ∙ append_assoc (string_bytes c.push_domain.new.out) (codes ",\n        expires: ")
    ((expires_layout (expires_shown r.expires)) ++ (codes ",\n    ),\n")) in
    let h7 : string_bytes c.push_str-6.new.self ≡ string_bytes
    c.push_str-4.new.self ++ ((domain_layout (domain_shown r.domain)) ++ ((codes
    ",\n        expires: ") ++ ((expires_layout (expires_shown r.expires)) ++ (codes ",\n    ),\n")))) = h8
    ∙ ap (λ q. q ++ ((codes ",\n        expires: ") ++ ((expires_layout (expires_shown r.expires)) ++ (codes
    ",\n    ),\n")))) c.in_ok-push_domain.ensures
    ∙ append_assoc (string_bytes c.push_str-4.new.self) (domain_layout (domain_shown r.domain))
    ((codes ",\n        expires: ") ++ ((expires_layout (expires_shown r.expires)) ++ (codes ",\n    ),\n"))) in
    let h6 : string_bytes c.push_str-6.new.self ≡ string_bytes
    c.push_bool.new.out ++ ((codes "),\n        domain: ") ++ ((domain_layout (domain_shown r.domain)) ++ ((codes
    ",\n        expires: ") ++ ((expires_layout (expires_shown r.expires)) ++ (codes ",\n    ),\n"))))) = h7
    ∙ ap (λ q. q ++ ((domain_layout (domain_shown r.domain)) ++ ((codes ",\n        expires: ") ++ ((expires_layout
    (expires_shown r.expires)) ++ (codes ",\n    ),\n"))))) c.in_ok-push_str-4.ensures.bytes
    ∙ append_assoc (string_bytes c.push_bool.new.out) (codes "),\n        domain: ")
    ((domain_layout (domain_shown r.domain)) ++ ((codes ",\n        expires: ") ++ ((expires_layout
    (expires_shown r.expires)) ++ (codes ",\n    ),\n")))) in
    let h5 : string_bytes c.push_str-6.new.self ≡ string_bytes
    c.push_str-3.new.self ++ ((bool_layout r.is_from_path_attr) ++ ((codes
    "),\n        domain: ") ++ ((domain_layout (domain_shown r.domain)) ++ ((codes
    ",\n        expires: ") ++ ((expires_layout (expires_shown r.expires)) ++ (codes ",\n    ),\n")))))) = h6
    ∙ ap (λ q. q ++ ((codes "),\n        domain: ") ++ ((domain_layout (domain_shown r.domain)) ++ ((codes
    ",\n        expires: ") ++ ((expires_layout (expires_shown r.expires)) ++ (codes ",\n    ),\n"))))))
    c.in_ok-push_bool.ensures ∙ append_assoc (string_bytes c.push_str-3.new.self) (bool_layout r.is_from_path_attr)
    ((codes "),\n        domain: ") ++ ((domain_layout (domain_shown r.domain)) ++ ((codes
    ",\n        expires: ") ++ ((expires_layout (expires_shown r.expires)) ++ (codes ",\n    ),\n"))))) in
    let h4 : string_bytes c.push_str-6.new.self ≡ string_bytes
    c.push_quoted-2.new.out ++ ((codes ", ") ++ ((bool_layout r.is_from_path_attr) ++ ((codes
    "),\n        domain: ") ++ ((domain_layout (domain_shown r.domain)) ++ ((codes
    ",\n        expires: ") ++ ((expires_layout (expires_shown r.expires)) ++ (codes ",\n    ),\n"))))))) = h5
    ∙ ap (λ q. q ++ ((bool_layout r.is_from_path_attr) ++ ((codes "),\n        domain: ") ++ ((domain_layout
    (domain_shown r.domain)) ++ ((codes ",\n        expires: ") ++ ((expires_layout
    (expires_shown r.expires)) ++ (codes ",\n    ),\n"))))))) c.in_ok-push_str-3.ensures.bytes
    ∙ append_assoc (string_bytes c.push_quoted-2.new.out) (codes ", ")
    ((bool_layout r.is_from_path_attr) ++ ((codes "),\n        domain: ") ++ ((domain_layout
    (domain_shown r.domain)) ++ ((codes ",\n        expires: ") ++ ((expires_layout
    (expires_shown r.expires)) ++ (codes ",\n    ),\n")))))) in
    let h3 : string_bytes c.push_str-6.new.self ≡ string_bytes
    c.push_str-2.new.self ++ ((quoted (string_bytes r.path)) ++ ((codes
    ", ") ++ ((bool_layout r.is_from_path_attr) ++ ((codes "),\n        domain: ") ++ ((domain_layout
    (domain_shown r.domain)) ++ ((codes ",\n        expires: ") ++ ((expires_layout
    (expires_shown r.expires)) ++ (codes ",\n    ),\n")))))))) = h4
    ∙ ap (λ q. q ++ ((codes ", ") ++ ((bool_layout r.is_from_path_attr) ++ ((codes
    "),\n        domain: ") ++ ((domain_layout (domain_shown r.domain)) ++ ((codes
    ",\n        expires: ") ++ ((expires_layout (expires_shown r.expires)) ++ (codes ",\n    ),\n")))))))) path
    ∙ append_assoc (string_bytes c.push_str-2.new.self) (quoted (string_bytes r.path))
    ((codes ", ") ++ ((bool_layout r.is_from_path_attr) ++ ((codes "),\n        domain: ") ++ ((domain_layout
    (domain_shown r.domain)) ++ ((codes ",\n        expires: ") ++ ((expires_layout
    (expires_shown r.expires)) ++ (codes ",\n    ),\n"))))))) in
    let h2 : string_bytes c.push_str-6.new.self ≡ string_bytes
    c.push_quoted.new.out ++ ((codes ",\n        path: (") ++ ((quoted (string_bytes r.path)) ++ ((codes
    ", ") ++ ((bool_layout r.is_from_path_attr) ++ ((codes "),\n        domain: ") ++ ((domain_layout
    (domain_shown r.domain)) ++ ((codes ",\n        expires: ") ++ ((expires_layout
    (expires_shown r.expires)) ++ (codes ",\n    ),\n"))))))))) = h3
    ∙ ap (λ q. q ++ ((quoted (string_bytes r.path)) ++ ((codes
    ", ") ++ ((bool_layout r.is_from_path_attr) ++ ((codes "),\n        domain: ") ++ ((domain_layout
    (domain_shown r.domain)) ++ ((codes ",\n        expires: ") ++ ((expires_layout
    (expires_shown r.expires)) ++ (codes ",\n    ),\n"))))))))) c.in_ok-push_str-2.ensures.bytes
    ∙ append_assoc (string_bytes c.push_quoted.new.out) (codes ",\n        path: (")
    ((quoted (string_bytes r.path)) ++ ((codes ", ") ++ ((bool_layout r.is_from_path_attr) ++ ((codes
    "),\n        domain: ") ++ ((domain_layout (domain_shown r.domain)) ++ ((codes
    ",\n        expires: ") ++ ((expires_layout (expires_shown r.expires)) ++ (codes ",\n    ),\n")))))))) in
    let h1 : string_bytes c.push_str-6.new.self ≡ string_bytes
    c.push_str.new.self ++ ((quoted (string_bytes r.raw_cookie)) ++ ((codes ",\n        path: (") ++ ((quoted
    (string_bytes r.path)) ++ ((codes ", ") ++ ((bool_layout r.is_from_path_attr) ++ ((codes
    "),\n        domain: ") ++ ((domain_layout (domain_shown r.domain)) ++ ((codes
    ",\n        expires: ") ++ ((expires_layout (expires_shown r.expires)) ++ (codes ",\n    ),\n")))))))))) = h2
    ∙ ap (λ q. q ++ ((codes ",\n        path: (") ++ ((quoted (string_bytes r.path)) ++ ((codes
    ", ") ++ ((bool_layout r.is_from_path_attr) ++ ((codes "),\n        domain: ") ++ ((domain_layout
    (domain_shown r.domain)) ++ ((codes ",\n        expires: ") ++ ((expires_layout
    (expires_shown r.expires)) ++ (codes ",\n    ),\n")))))))))) raw
    ∙ append_assoc (string_bytes c.push_str.new.self) (quoted (string_bytes r.raw_cookie))
    ((codes ",\n        path: (") ++ ((quoted (string_bytes r.path)) ++ ((codes
    ", ") ++ ((bool_layout r.is_from_path_attr) ++ ((codes "),\n        domain: ") ++ ((domain_layout
    (domain_shown r.domain)) ++ ((codes ",\n        expires: ") ++ ((expires_layout
    (expires_shown r.expires)) ++ (codes ",\n    ),\n"))))))))) in
    let h0 : string_bytes c.push_str-6.new.self ≡ string_bytes
    c.args.out.now ++ ((codes "    (\n        raw_cookie: ") ++ ((quoted (string_bytes r.raw_cookie)) ++ ((codes
    ",\n        path: (") ++ ((quoted (string_bytes r.path)) ++ ((codes
    ", ") ++ ((bool_layout r.is_from_path_attr) ++ ((codes "),\n        domain: ") ++ ((domain_layout
    (domain_shown r.domain)) ++ ((codes ",\n        expires: ") ++ ((expires_layout
    (expires_shown r.expires)) ++ (codes ",\n    ),\n"))))))))))) = h1
    ∙ ap (λ q. q ++ ((quoted (string_bytes r.raw_cookie)) ++ ((codes ",\n        path: (") ++ ((quoted
    (string_bytes r.path)) ++ ((codes ", ") ++ ((bool_layout r.is_from_path_attr) ++ ((codes
    "),\n        domain: ") ++ ((domain_layout (domain_shown r.domain)) ++ ((codes
    ",\n        expires: ") ++ ((expires_layout (expires_shown r.expires)) ++ (codes ",\n    ),\n")))))))))))
    c.in_ok-push_str.ensures.bytes
    ∙ append_assoc (string_bytes c.args.out.now) (codes "    (\n        raw_cookie: ")
    ((quoted (string_bytes r.raw_cookie)) ++ ((codes ",\n        path: (") ++ ((quoted
    (string_bytes r.path)) ++ ((codes ", ") ++ ((bool_layout r.is_from_path_attr) ++ ((codes
    "),\n        domain: ") ++ ((domain_layout (domain_shown r.domain)) ++ ((codes
    ",\n        expires: ") ++ ((expires_layout (expires_shown r.expires)) ++ (codes ",\n    ),\n")))))))))) in
    h0
