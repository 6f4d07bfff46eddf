use Rattle.std.proofs.Common.{◌∙◌, ap}
use Rattle.cookie_jar.proofs.EntryLemmas.{piece_read, piece_unread}
use Rattle.cookie_jar.proofs.entries.row_of_piece.Goals as goal

pub returns-in-Ok : goal.returns-in-Ok
returns-in-Ok c =
    let loaded = c.in-Ok.ensures.ok in
    let is = ap (λ text. text.now) c.new.ensures.inner ∙ (c.as_slice.ensures.value ∙ c.in_ok-text.ensures) in
    let same = loaded.1 ∙ is in
    piece_read c.only_row.result c.args.item.now loaded.0 c.in-Ok.store same loaded.2 c.only_row.ensures

pub returns : goal.returns
returns c =
    let same = ap (λ text. text.now) c.new.ensures.inner ∙ (c.as_slice.ensures.value ∙ c.in_ok-text.ensures) in
    piece_unread c.no_row.result c.args.item.now _ c.in-Err.cause _ _ _ same c.in-Err.ensures.err c.no_row.ensures
