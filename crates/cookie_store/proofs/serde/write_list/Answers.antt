use Rattle.std.proofs.Common.{◌∙◌, ◌++◌, ◌∷◌, [], refl, ap, subst, string_bytes}
use Rattle.std.specs.Prelude.{Result, Ok, Err, OnOk, option_map}
use Rattle.std.specs.Io.KnownBytes.{Appends}
use Rattle.devices.specs.Device.{AppendsFront}
use Rattle.jiff.specs.Words.{civil_nanos}
use Rattle.cookie_store.specs.SavedLists.{IsListOf, lister}
use Rattle.cookie_store.specs.Steps.{wanted}
use Rattle.cookie_store.proofs.SaveLemmas.{at_each_error, fails_with}
use Rattle.cookie_store.proofs.serde.write_list.Goals as goal

on_ok : {T E P Q : Type 0} (r : Result T E) → OnOk r P → (P → Q) → OnOk r Q
on_ok (Ok x) p f = f p
on_ok (Err e) p f = tt

pub returns-clause-ok : goal.returns-clause-ok
returns-clause-ok g c =
    let now = option_map civil_nanos c.args.now in
    let text = string_bytes c.in_ok-list.list ++ 10 ∷ [] in
    let closures = lister g.C.StoreCookie.shows g.F.FnMut in
    let is : IsListOf closures c.args.closure (wanted now c.args.store.now.rows) text = (
      c.in_ok-list.list,
      (
        c.in_ok-cookies.cookies.items,
        c.closure.new.self,
        c.in_ok-cookies.ensures ∙ ap (wanted now) c.iter_any.ensures.rows,
        record { shown = c.deref.result; shows = c.deref.ensures.value; called = c.in_ok-list.ensures },
      ),
      refl,
    ) in
    let old = g.W.Sink.written c.args.writer.now in
    let new = g.W.Sink.written c.write_line.new.writer in
    on_ok c.write_line.result c.write_line.ensures.bytes (λ h. (
      text,
      is,
      subst (λ t. Appends old new (t ++ 10 ∷ [])) c.as_str.ensures.value h,
    ))

pub returns-clause-err : goal.returns-clause-err
returns-clause-err g c =
    let now = option_map civil_nanos c.args.now in
    let text = string_bytes c.in_ok-list.list ++ 10 ∷ [] in
    let closures = lister g.C.StoreCookie.shows g.F.FnMut in
    let is : IsListOf closures c.args.closure (wanted now c.args.store.now.rows) text = (
      c.in_ok-list.list,
      (
        c.in_ok-cookies.cookies.items,
        c.closure.new.self,
        c.in_ok-cookies.ensures ∙ ap (wanted now) c.iter_any.ensures.rows,
        record { shown = c.deref.result; shows = c.deref.ensures.value; called = c.in_ok-list.ensures },
      ),
      refl,
    ) in
    let old = g.W.Sink.written c.args.writer.now in
    let new = g.W.Sink.written c.write_line.new.writer in
    fails_with _ _ _ c.write_line.result c.write_line.ensures.err (at_each_error c.write_line.result (λ front. (
      text,
      is,
      subst (λ t. AppendsFront old new (t ++ 10 ∷ [])) c.as_str.ensures.value front,
    )) c.write_line.ensures.front)
