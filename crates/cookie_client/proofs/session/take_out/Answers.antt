use Rattle.std.proofs.Common.{◌≡◌, ◌∙◌, ap, subst, []}
use Rattle.std.specs.Prelude.{OnOk}
use Rattle.cookie_text.specs.Record.{Seen, bare, unsliced}
use Rattle.cookie.specs.Jar.{Removes}
use Rattle.cookie.specs.Prefix.{prefixed, secure, secure_text}
use Rattle.cookie_client.specs.Jar.{sent}
use Rattle.cookie_client.proofs.session.take_out.Goals as goal

pub returns-in-Secure-clause-ok : goal.returns-in-Secure-clause-ok
returns-in-Secure-clause-ok c =
    let is : c.conform-cookie.result ≡ sent (unsliced (bare c.args.name.now [])) =
    c.conform-cookie.ensures ∙ ap sent (c.new_owned.ensures ∙ (λ i. unsliced
    (bare (c.in_ok-name.ensures.ok i) (c.new.ensures.bytes i)))) in
    rw c.in-Secure.is (subst (λ (s : Seen). OnOk c.take_prefixed-in-Secure.result
    (Removes c.args.jar.now (secure (prefixed secure_text s)) c.args.now c.take_prefixed-in-Secure.new.jar)) is
    c.take_prefixed-in-Secure.ensures.ok)
