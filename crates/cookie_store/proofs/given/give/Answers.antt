use Rattle.std.proofs.Common.{map, ◌≡◌, ◌∙◌, [], ◌∷◌, ◌++◌, ap, sym, subst, refl, append_assoc, append-nil, true≢false}
use Rattle.std.proofs.lemmas.List.{at_drop_all, map-append}
use Rattle.jiff.specs.Words.{civil_nanos}
use Rattle.cookie_store.specs.Given.{AreGiven, IsGiven, lent_row}
use Rattle.cookie_store.specs.Steps.{GivesMore}
use Rattle.cookie_store.specs.StoredCookie.{stored_in, stored_of}
use Rattle.cookie_store.proofs.GivenLemmas.{first_given, first_passed}
use Rattle.cookie_store.proofs.given.give.Goals as goal
use Rattle.cookie_store.proofs.given.give.Goals.{then-branch+in_ok-push, else-branch}

pub loop-cookie-preserved : goal.loop-cookie-preserved
loop-cookie-preserved c =
    let cookies = c.args.cookies.now in
    let url = c.args.request_url.now in
    let now = civil_nanos c.args.now in
    let i = c.loop-cookie.cookie-index in
    let cookie = c.cookie-item.result in
    let old = map lent_row c.loop-cookie.given.items in
    let same : stored_in cookie ≡ stored_of c.deref-cookie.result.now = ap stored_of (sym c.deref-cookie.ensures) in
    let whole = GivesMore (map stored_in cookies) url now (map lent_row c.args.given.now.items) in (
      elim c.if-branch.branch [
        | then-branch+in_ok-push w ↦ λ rest picks.
            let more : map lent_row c.if-branch.given.items ≡ old ++ (stored_in cookie ∷ []) =
            ap (λ given. map lent_row given.items) w.given-is
            ∙ ap (map lent_row) w.in_ok-push.ensures.items
            ∙ map-append lent_row c.loop-cookie.given.items _
            ∙ ap (λ row. old ++ row ∷ []) (sym same) in
            subst whole
            (sym (append_assoc old (stored_in cookie ∷ []) rest) ∙ ap (λ l. l ++ rest) (sym more))
            (c.loop-cookie.invariant.0 (stored_in cookie ∷ rest)
            (first_given url now cookies i cookie rest c.loop-cookie-test.true c.cookie-item.is
            (subst (λ row. IsGiven row url now) (sym same) (c.in_ok-is_given.ensures.given.0 w.if-branch.true)) picks))
        | else-branch w ↦ λ rest picks.
            subst whole (ap (λ given. map lent_row given.items ++ rest) (sym w.given-is))
            (c.loop-cookie.invariant.0 rest
            (first_passed url now cookies i cookie rest c.loop-cookie-test.true c.cookie-item.is
            (λ is. true≢false (sym (c.in_ok-is_given.ensures.given.1 (subst (λ row. IsGiven row url now) same is))
            ∙ w.if-branch.false)) picks))
      ],
      c.in_ok-is_given.ensures.judged,
    )

pub returns-clause-judged : goal.returns-clause-judged
returns-clause-judged c = c.loop-cookie.invariant.1

pub returns-clause-given : goal.returns-clause-given
returns-clause-given c =
    let cookies = c.args.cookies.now in
    let url = c.args.request_url.now in
    let now = civil_nanos c.args.now in
    subst (GivesMore (map stored_in cookies) url now (map lent_row c.args.given.now.items))
    (append-nil (map lent_row c.loop-cookie.given.items))
    (c.loop-cookie.invariant.0 []
    (subst (λ rows. AreGiven rows url now [])
    (sym (at_drop_all (map stored_in) cookies c.loop-cookie.cookie-index c.loop-cookie-test.false)) refl))
