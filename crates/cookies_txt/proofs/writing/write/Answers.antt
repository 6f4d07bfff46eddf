use Rattle.std.proofs.Common.{◌≡◌, ◌+◌, length, take, map, string_bytes, sym, ap, subst, inr, refl, ◌∙◌, arith}
use Rattle.std.proofs.lemmas.Grind.{common_steps}
use Rattle.std.proofs.lemmas.List.{length-map, length-take-le}
use Rattle.cookie_store.specs.StoredCookie.{stored_of}
use Rattle.cookies_txt.specs.Reading.{SaysLines}
use Rattle.cookies_txt.specs.Writing.{held, line_of_row, rows_in}
use Rattle.cookies_txt.specs.declared.readers.Reader.TheVariants.{Curl}
use Rattle.cookies_txt.proofs.RowLemmas.{rows_said}
use Rattle.cookies_txt.proofs.WriteLemmas.{refused_at, text_of}
use Rattle.cookies_txt.proofs.writing.write.Goals as goal

pub returns-in-Some-2-clause-err : goal.returns-in-Some-2-clause-err
returns-in-Some-2-clause-err c =
    let cookies = c.args.cookies.now in
    let i = c.loop-index.index in
    let counted : length (rows_in (take i cookies)) ≡ i =
    length-map (take i cookies) (λ cookie. stored_of cookie.now) ∙ length-take-le i cookies (omega arith) in
    inr (
      c.if-passing_over.false,
      i + 1,
      c.in-Some.field-0,
      refused_at cookies i c.index-cookies-index.result c.in-Some.field-0 (omega arith) c.index-cookies-index.is
          counted (c.loop-index.invariant.held c.if-passing_over.false) (sym c.in-Some.is ∙ c.row_fault.ensures),
      refl,
    )

pub returns-clause-reads : goal.returns-clause-reads
returns-clause-reads c =
    let cookies = c.args.cookies.now in
    let all : take c.loop-index.index cookies ≡ cookies = grind (arith, common_steps) in
    let text : string_bytes c.loop-index.text ≡ text_of Curl (rows_in cookies) =
    c.loop-index.invariant.writes.text ∙ ap (λ cs. text_of Curl (rows_in cs)) all in
    subst (λ t. SaysLines t (map line_of_row (held (rows_in cookies)))) (sym text) (rows_said (rows_in cookies))
