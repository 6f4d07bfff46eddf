use Rattle.cookies_txt.specs.Steps.{said_of}
use Rattle.store_parts.specs.Expiry.{death_of}
use Rattle.std.proofs.Common.{◌∙◌, ap, Some}
use Rattle.cookie_text.specs.Setting.{with_http_only, with_path, with_secure}
use Rattle.cookies_txt.proofs.PartLemmas.{raw_made}
use Rattle.cookies_txt.proofs.line.Line.to_raw.Goals as goal

pub returns : goal.returns
returns c =
    let name = c.in_ok-name.ensures.ok in
    let value = c.in_ok-value.ensures.ok in
    raw_made (said_of c.args.self.now) (death_of c.args.expires) c.new_owned-raw.result c.set_http_only.new.self
    c.set_secure.new.self c.set_path_owned.new.self c.put_domain.new.raw c.put_end.new.raw
    (rw (name, value) at c.new_owned-raw.ensures)
    (c.set_http_only.ensures ∙ ap (with_http_only c.new_owned-raw.result) c.flag_of.ensures)
    (c.set_secure.ensures ∙ ap (with_secure c.set_http_only.new.self) c.flag_of-2.ensures)
    (c.set_path_owned.ensures ∙ ap (λ t. with_path c.set_secure.new.self (Some t)) c.in_ok-path.ensures.ok)
    c.in_ok-put_domain.ensures c.put_end.ensures
