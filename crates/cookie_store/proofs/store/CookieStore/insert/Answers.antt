use Rattle.std.proofs.Common.{rules, inl, inr, refl, subst, ap}
use Rattle.std.proofs.lemmas.Bool.{iff_false}
use Rattle.jiff.specs.Words.{civil_nanos}
use Rattle.cookie_store.specs.Insertion.{End, Inserts, Fits, OrLacks, alone}
use Rattle.cookie_store.specs.StoredCookie.{stored_of}
use Rattle.cookie_store.proofs.EndLemmas.{or_lacks-weaker}
use Rattle.cookie_store.proofs.StoreLemmas.{alone_is}
use Rattle.cookie_store.proofs.store.CookieStore.insert.Goals as goal

pub returns-then-is_barred-clause-rows : goal.returns-then-is_barred-clause-rows
returns-then-is_barred-clause-rows c = inl (inl (c.is_barred.ensures.0 c.if-is_barred.true, refl))

pub returns-then-not-is_listed-clause-rows : goal.returns-then-not-is_listed-clause-rows
returns-then-not-is_listed-clause-rows c =
    let rows = c.args.self.now.rows in
    let url = c.args.request_url.now in
    let now = civil_nanos c.args.now in
    let row = stored_of c.args.cookie in
    let end : End = (c.enter.result, c.enter.new.rows) in
    or_lacks-weaker (Fits rows url now row) (Inserts c.args.self.now.suffixes rows url now row)
    (λ e fits. inr (iff_false c.is_barred.ensures c.if-is_barred.false, inl (search rules, fits))) rows end
    (subst (λ rs. OrLacks (Fits rs url now row) rs end) (ap (λ s. s.rows) c.self.view_is) c.enter.ensures.rows)

pub returns-then-not-host_is_identical-clause-rows : goal.returns-then-not-host_is_identical-clause-rows
returns-then-not-host_is_identical-clause-rows c =
    inl (inr (iff_false c.is_barred.ensures c.if-is_barred.false, inr (inr (search rules, search rules, refl))))

pub returns-clause-rows : goal.returns-clause-rows
returns-clause-rows c =
    let rows = c.args.self.now.rows in
    let url = c.args.request_url.now in
    let now = civil_nanos c.args.now in
    let row = stored_of c.args.cookie in
    let end : End = (c.enter-2.result, c.enter-2.new.rows) in
    or_lacks-weaker (Fits rows url now (alone row)) (Inserts c.args.self.now.suffixes rows url now row)
    (λ e fits. inr (
      iff_false c.is_barred.ensures c.if-is_barred.false,
      inr (inl (search rules, search rules, fits)),
    )) rows end
    (subst (λ r. OrLacks (Fits rows url now r) rows end)
    (alone_is row (stored_of c.alone.result) url (search rules) c.alone.ensures)
    (subst (λ rs. OrLacks (Fits rs url now (stored_of c.alone.result)) rs end) (ap (λ s. s.rows) c.self.view_is)
    c.enter-2.ensures.rows))
