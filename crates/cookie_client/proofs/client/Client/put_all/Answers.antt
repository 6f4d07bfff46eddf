use Rattle.std.proofs.Common.{map, subst, sym}
use Rattle.cookie_store.specs.Rows.{Store}
use Rattle.cookie_store.specs.StoredCookie.{stored_of}
use Rattle.cookie_client.specs.HostPrefix.{AreHeldRightly}
use Rattle.cookie_client.specs.Keeping.{HaveReadPairs}
use Rattle.cookie_client.proofs.ClientRows.{put_each}
use Rattle.cookie_client.proofs.PutCookies.{put_all_held}
use Rattle.cookie_client.proofs.client.Client.put_all.Goals as goal

pub with_cookies-requires : goal.with_cookies-requires
with_cookies-requires c = c.self.invariant.1

pub invariant_of-self : goal.invariant_of-self
invariant_of-self c =
    let more = map stored_of c.args.cookies.items in
    let old = c.self.inside.store.rows in
    subst (λ (s : Store). HaveReadPairs s.rows × AreHeldRightly s.rows) (sym c.replace_rows.ensures) (
      subst HaveReadPairs (sym c.in_ok-whole.ensures) (put_each more old c.requires.pairs c.self.invariant.0),
      subst AreHeldRightly (sym c.in_ok-whole.ensures) (put_all_held more old c.requires.held c.self.invariant.1),
    )

pub returns-clause-held : goal.returns-clause-held
returns-clause-held c =
    subst (λ (s : Store). AreHeldRightly s.rows) (sym c.replace_rows.ensures)
    (subst AreHeldRightly (sym c.in_ok-whole.ensures)
    (put_all_held (map stored_of c.args.cookies.items) c.self.inside.store.rows c.requires.held c.self.invariant.1))
