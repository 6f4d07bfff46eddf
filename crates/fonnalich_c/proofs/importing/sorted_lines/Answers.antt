use Rattle.std.proofs.Common.{◌≡◌, ◌∙◌, ◌++◌, ◌∷◌, [], Ok, Some, None, ap, map, sym}
use Rattle.std.proofs.lemmas.List.{append-nil, map-append}
use Rattle.jiff.specs.Words.{civil_nanos}
use Rattle.cookie_store.specs.StoredCookie.{stored_of}
use Rattle.fonnalich_c.specs.Importing.{refused_in, taken_in}
use Rattle.fonnalich_c.proofs.Imports.{end_text, sorts_next}
use Rattle.fonnalich_c.proofs.importing.sorted_lines.Goals as goal

pub loop-entry-preserved-in-Continue-1 : goal.loop-entry-preserved-in-Continue-1
loop-entry-preserved-in-Continue-1 c =
    let old = c.loop-entry.rows.items in
    let told = c.loop-entry.refused.items in
    let entry = c.in-Some.entry in
    let cookie = c.in-Ok-Some.cookie in
    let is : Ok (Some cookie) ≡ c.judged.result =
    ap (λ found. Ok found) (sym c.in-Ok-Some.field-0-is) ∙ sym c.in-Ok-Some.is in
    sorts_next (civil_nanos c.args.now) c.loop-entry.yielded entry old c.push.new.self.items told told c.judged.result
    c.loop-entry.invariant c.judged.ensures
    (ap (map stored_of) c.in_ok-push-in-Ok-Some.ensures.items
    ∙ (map-append stored_of old (cookie ∷ [])
    ∙ ap (λ r. map stored_of old ++ taken_in (end_text r)) is))
    (sym (append-nil told) ∙ ap (λ r. told ++ refused_in entry.number (end_text r)) is)

pub loop-entry-preserved-in-Ok-None : goal.loop-entry-preserved-in-Ok-None
loop-entry-preserved-in-Ok-None c =
    let old = c.loop-entry.rows.items in
    let told = c.loop-entry.refused.items in
    let entry = c.in-Some.entry in
    let is : Ok None ≡ c.judged.result = ap (λ found. Ok found) (sym c.in-Ok-None.field-0-is) ∙ sym c.in-Ok-None.is in
    sorts_next (civil_nanos c.args.now) c.loop-entry.yielded entry old old told told c.judged.result
    c.loop-entry.invariant c.judged.ensures
    (sym (append-nil (map stored_of old))
    ∙ ap (λ r. map stored_of old ++ taken_in (end_text r)) is)
    (sym (append-nil told) ∙ ap (λ r. told ++ refused_in entry.number (end_text r)) is)

pub loop-entry-preserved : goal.loop-entry-preserved
loop-entry-preserved c =
    let old = c.loop-entry.rows.items in
    let told = c.loop-entry.refused.items in
    let entry = c.in-Some.entry in
    sorts_next (civil_nanos c.args.now) c.loop-entry.yielded entry old old told c.push_refused.new.refused.items
    c.judged.result c.loop-entry.invariant c.judged.ensures
    (sym (append-nil (map stored_of old))
    ∙ ap (λ r. map stored_of old ++ taken_in (end_text r)) (sym c.in-Err.is))
    (c.in_ok-push_refused-in-Err.ensures
    ∙ ap (λ r. told ++ refused_in entry.number (end_text r)) (sym c.in-Err.is))
