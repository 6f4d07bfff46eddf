use Rattle.std.proofs.Common.{map, ◌∙◌, get_or, [], ◌++◌, ap, sym, subst, refl, append_assoc, append-nil}
use Rattle.std.specs.Prelude.{slice_range}
use Rattle.std.proofs.lemmas.List.{at_drop_all}
use Rattle.jiff.specs.Words.{civil_nanos}
use Rattle.cookie_store.specs.Given.{AreGiven, lent_row}
use Rattle.cookie_store.specs.Steps.{GivesMore, rows_in}
use Rattle.cookie_store.specs.StoredCookie.{stored_in}
use Rattle.cookie_store.proofs.GivenLemmas.{part_given, rows_of_part}
use Rattle.cookie_store.proofs.given.give_parts.Goals as goal

pub loop-part-preserved : goal.loop-part-preserved
loop-part-preserved c = (
  λ rest picks.
      let rows = map stored_in c.args.cookies.now in
      let parts = c.args.parts.now in
      let url = c.args.request_url.now in
      let now = civil_nanos c.args.now in
      let i = c.loop-part.part-index in
      let part = get_or parts i (0, 0) in
      let old = map lent_row c.loop-part.given.items in
      let gives : GivesMore (map stored_in (slice_range c.args.cookies.now part.0 part.1)) url now old
      (map lent_row c.give.new.given.items) =
      c.in_ok-give.ensures.given in
      let own = gives.0 in
      subst (AreGiven (rows_in parts rows) url now)
      (sym (append_assoc old own rest) ∙ ap (λ l. l ++ rest) (sym gives.2))
      (c.loop-part.invariant.0 (own ++ rest)
      (part_given url now rows parts i (0, 0) own rest c.loop-part-test.true
      (subst (λ those. AreGiven those url now own) (rows_of_part c.args.cookies.now part.0 part.1) gives.1) picks)),
  c.in_ok-give.ensures.judged,
)

pub returns : goal.returns
returns c =
    let rows = map stored_in c.args.cookies.now in
    let url = c.args.request_url.now in
    let now = civil_nanos c.args.now in
    subst (AreGiven (rows_in c.args.parts.now rows) url now) (append-nil (map lent_row c.loop-part.given.items))
    (c.loop-part.invariant.0 []
    (subst (λ those. AreGiven those url now [])
    (sym (at_drop_all (λ parts. rows_in parts rows) c.args.parts.now c.loop-part.part-index c.loop-part-test.false))
    refl))
