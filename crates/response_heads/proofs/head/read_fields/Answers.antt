use Rattle.std.proofs.Common.{◌≡◌, ◌++◌, ◌∷◌, ◌∙◌, [], map, sym, ap, subst, arith}
use Rattle.std.proofs.lemmas.List.{map-append}
use Rattle.response_heads.specs.Read.{field_text}
use Rattle.response_heads.proofs.HeadLemmas.{FieldsSoFar, fields_more}
use Rattle.response_heads.proofs.head.read_fields.Goals as goal

pub loop-line-preserved : goal.loop-line-preserved
loop-line-preserved c =
    let old = c.args.lines.now in
    let next = c.in-Some.ensures.line in
    let new : map field_text c.push.new.self.items
    ≡ map field_text c.loop-line.fields.items ++ field_text c.field_of.result ∷ [] =
    ap (map field_text) c.in_ok-push.ensures.items
    ∙ map-append field_text c.loop-line.fields.items (c.field_of.result ∷ []) in
    let more = fields_more old.rest.now old.taken c.loop-line.lines.rest.now c.loop-line.lines.taken
    (map field_text c.loop-line.fields.items) c.in-Some.line.now c.next.new.self.rest.now c.next.new.self.taken
    (field_text c.field_of.result) c.loop-line.invariant.reads next.0 next.1 next.2
    (sym c.breaks_off.ensures ∙ c.if-breaks_off.false, c.field_of.ensures) in
    record {
      reads = subst (FieldsSoFar old.rest.now old.taken c.next.new.self.rest.now c.next.new.self.taken) (sym new) more;
      shorter = omega (arith, next.3);
    }
