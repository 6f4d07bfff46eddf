use Rattle.std.proofs.Common.{◌≡◌, ◌∙◌, ap, length, map, subst, sym}
use Rattle.std.proofs.lemmas.List.{length-map}
use Rattle.jiff.specs.Words.{civil_nanos}
use Rattle.cookie_store.specs.Placing.{put_all}
use Rattle.cookie_store.specs.StoredCookie.{stored_of}
use Rattle.cookie_client.specs.HostPrefix.{AreHeldRightly}
use Rattle.cookie_client.specs.Keeping.{HaveReadPairs}
use Rattle.cookies_txt.specs.Entries.{entry_text}
use Rattle.fonnalich_c.specs.Importing.{answer_of, taken_of}
use Rattle.fonnalich_c.proofs.Imports.{as_many, taken_held, taken_pairs}
use Rattle.fonnalich_c.proofs.importing.import_at.Goals as goal

pub put_all-requires-clause-pairs : goal.put_all-requires-clause-pairs
put_all-requires-clause-pairs c =
    let (ends, are, rows, told) = c.in_ok-sorted.ensures in
    subst HaveReadPairs (sym rows)
    (taken_pairs (civil_nanos c.args.now) (map entry_text c.in_ok-entries.entries.items) ends are)

pub put_all-requires-clause-held : goal.put_all-requires-clause-held
put_all-requires-clause-held c =
    let (ends, are, rows, told) = c.in_ok-sorted.ensures in
    subst AreHeldRightly (sym rows)
    (taken_held (civil_nanos c.args.now) (map entry_text c.in_ok-entries.entries.items) ends are)

pub returns-clause-ok : goal.returns-clause-ok
returns-clause-ok c =
    let (ends, are, rows, told) = c.in_ok-sorted.ensures in
    let entries = c.in_ok-entries.entries in
    let sorted = c.in_ok-sorted.sorted in
    let old = c.args.client.now in
    let lines = map entry_text entries.items in
    let count : c.len-lines.result ≡ length ends =
    c.len-lines.ensures ∙ (entries.ok.0 ∙ (sym (length-map entries.items entry_text)
    ∙ as_many (civil_nanos c.args.now) lines ends are)) in (
      lines,
      c.in_ok-entries.ensures,
      (
        ends,
        are,
        c.in_ok-answer.ensures
            ∙ (ap (λ n. answer_of n (map stored_of sorted.rows.items) sorted.refused.items) count
            ∙ (ap (λ taken. answer_of (length ends) taken sorted.refused.items) rows
            ∙ ap (answer_of (length ends) (taken_of ends)) told)),
        c.in_ok-put_all.ensures.ok ∙ ap (λ taken. record old { rows = put_all taken old.rows }) rows,
      ),
    )
