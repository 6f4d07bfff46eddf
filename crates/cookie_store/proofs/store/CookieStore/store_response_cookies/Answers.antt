use Rattle.std.proofs.Common.{◌∙◌, ◌++◌, ◌∷◌, [], refl, sym, subst}
use Rattle.jiff.specs.Words.{civil_nanos}
use Rattle.std.specs.Prelude.{Result, Ok, Err, OnErr}
use Rattle.std.specs.Iterator.{Yields}
use Rattle.std.proofs.iter.Next.{Yields-more}
use Rattle.cookie_store.specs.Insertion.{Receives, ReceivesAll, refused}
use Rattle.store_parts.specs.declared.error.CookieError.TheVariants.{OutOfMemory}
use Rattle.cookie_store.specs.Steps.{Passes}
use Rattle.cookie_store.proofs.EndLemmas.{met_want, receives_one_more}
use Rattle.cookie_store.proofs.store.CookieStore.store_response_cookies.Goals as goal

pub loop-cookie-preserved : goal.loop-cookie-preserved
loop-cookie-preserved g c =
    let url = c.args.request_url.now in
    let now = civil_nanos c.args.now in
    record {
      received = receives_one_more c.args.self.now.suffixes url now c.args.self.now.rows c.loop-cookie.self.rows
          c.receive.new.self.rows c.loop-cookie.yielded c.in-Some.cookie
          c.loop-cookie.invariant.received
          (subst (λ list. Passes list c.loop-cookie.self.rows url now c.in-Some.cookie c.receive.new.self.rows)
          c.loop-cookie.invariant.list c.in_ok-receive.ensures.ok);
      list = c.receive.ensures.list ∙ c.loop-cookie.invariant.list;
    }

at_any_error : {T E P : Type 0} (r : Result T E) → P → OnErr r P
at_any_error (Ok x) p = tt
at_any_error (Err e) p = p

pub returns-in_err-receive-clause-err : goal.returns-in_err-receive-clause-err
returns-in_err-receive-clause-err g c =
    let url = c.args.request_url.now in
    let now = civil_nanos c.args.now in
    let steps = g.I.Iterator.next_gives in
    let all = c.loop-cookie.yielded ++ c.in-Some.cookie ∷ [] in
    let new = c.receive.new.self.rows in
    at_any_error c.from_residual.result (
      all,
      c.next.new.self,
      subst (λ it. Yields steps it all c.next.new.self) c.into_iter-cookie-iterator.ensures.into_iter_gives
          (Yields-more steps c.into_iter-cookie-iterator.result c.loop-cookie.yielded c.loop-cookie.cookie-iterator
          c.in-Some.cookie c.next.new.self c.loop-cookie.yielded_by c.in-Some.ensures.steps),
      (
        c.loop-cookie.yielded,
        c.in-Some.cookie,
        refl,
        subst (ReceivesAll c.args.self.now.suffixes c.args.self.now.rows url now c.loop-cookie.yielded)
            (sym c.in_err-receive.ensures.err.1) c.loop-cookie.invariant.received,
        (met_want c.args.self.now.suffixes url now new new c.in-Some.cookie
            (subst (λ list. Receives list new url now (Ok c.in-Some.cookie)
            (refused OutOfMemory new)) c.loop-cookie.invariant.list
            c.in_err-receive.ensures.err.0)).0,
      ),
    )
