use Rattle.std.proofs.Common.{◌+◌, ◌≤◌, ap, map, subst, sym}
use Rattle.std.proofs.lemmas.Result.{IfOk-weaker}
use Rattle.jiff.specs.Words.{civil_nanos}
use Rattle.place_index.specs.Found.{Finds}
use Rattle.cookie_store.specs.Given.{AreGiven, lent_row}
use Rattle.cookie_store.specs.Indexed.{places_of}
use Rattle.cookie_store.specs.Steps.{AreInside, rows_in}
use Rattle.cookie_store.specs.StoredCookie.{stored_in}
use Rattle.cookie_store.proofs.GivenLemmas.{are_inside, given_of_parts, looks_at_host_of, none_given}
use Rattle.cookie_store.proofs.IndexedLemmas.{fits, is_index}
use Rattle.cookie_store.proofs.rows.Rows.given.Goals as goal

pub returns-in_default-clause-given : goal.returns-in_default-clause-given
returns-in_default-clause-given g c =
    let url = c.args.request_url.now in
    let now = civil_nanos c.args.now in
    subst (AreGiven c.args.self.now url now) (sym (ap (map lent_row) c.new.ensures.items))
    (none_given c.args.self.now url now (sym c.in_default.ensures))

pub find-requires : goal.find-requires
find-requires g c =
    let v = c.self.inside.cookies in
    is_index (map stored_in v.items) c.self.inside.index c.self.invariant (fits stored_in v)

pub returns-in_err-parts-clause-looks : goal.returns-in_err-parts-clause-looks
returns-in_err-parts-clause-looks g c =
    let rows = map stored_in c.self.inside.cookies.items in
    subst (λ n. c.find.new.looks ≤ c.args.looks.now + n)
    (looks_at_host_of rows c.args.self.now c.args.request_url.now c.path.result.now c.in-Some.host.now c.self.view_is
    c.path.ensures.value c.in-Some.ensures)
    (c.find.ensures.looks (places_of rows) c.self.invariant.agrees)

pub give_parts-requires : goal.give_parts-requires
give_parts-requires g c =
    let cookies = c.self.inside.cookies.items in
    let parts = c.in_ok-parts.parts.items in
    let finds = c.in_ok-parts.ensures.found (places_of (map stored_in cookies)) c.self.invariant.agrees in
    subst (AreInside (map stored_in c.as_slice.result.now)) (sym c.as_slice-2.ensures.value)
    (subst (λ those. AreInside (map stored_in those) parts) (sym c.as_slice.ensures.value)
    (are_inside (map stored_in cookies) 0 parts finds.ascend finds.within))

pub returns-clause-given : goal.returns-clause-given
returns-clause-given g c =
    let cookies = c.self.inside.cookies.items in
    let parts = c.in_ok-parts.parts.items in
    let url = c.args.request_url.now in
    let now = civil_nanos c.args.now in
    let host = c.in-Some.host.now in
    let finds = c.in_ok-parts.ensures.found (places_of (map stored_in cookies)) c.self.invariant.agrees in
    IfOk-weaker c.give_parts.result _ _
    (λ given picks.
    subst (λ rows. AreGiven rows url now (map lent_row given.items)) c.self.view_is
    (given_of_parts (map stored_in cookies) url now host (sym c.in-Some.ensures) parts
    (subst (λ path. Finds host path (places_of (map stored_in cookies)) parts) c.path.ensures.value finds)
    (map lent_row given.items)
    (subst (λ those. AreGiven (rows_in those (map stored_in cookies)) url now (map lent_row given.items))
    c.as_slice-2.ensures.value
    (subst
    (λ those. AreGiven (rows_in c.as_slice-2.result.now (map stored_in those)) url now (map lent_row given.items))
    c.as_slice.ensures.value picks))))
    c.give_parts.ensures

pub returns-clause-looks : goal.returns-clause-looks
returns-clause-looks g c =
    let rows = map stored_in c.self.inside.cookies.items in
    subst (λ n. c.find.new.looks ≤ c.args.looks.now + n)
    (looks_at_host_of rows c.args.self.now c.args.request_url.now c.path.result.now c.in-Some.host.now c.self.view_is
    c.path.ensures.value c.in-Some.ensures)
    (c.find.ensures.looks (places_of rows) c.self.invariant.agrees)
