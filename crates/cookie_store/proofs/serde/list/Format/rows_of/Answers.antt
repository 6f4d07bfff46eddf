use Rattle.cookie_store.proofs.RefusalLemmas.{reads_text, refuses_text}
use Rattle.cookie_store.proofs.serde.list.Format.rows_of.Goals as goal

pub returns-in-Ron-clause-text : goal.returns-in-Ron-clause-text
returns-in-Ron-clause-text c = reads_text c.args.text.now c.rows_from_ron.result c.rows_from_ron.ensures.not_text

pub returns-in-Ron-clause-err : goal.returns-in-Ron-clause-err
returns-in-Ron-clause-err c = refuses_text c.args.self c.args.text.now c.rows_from_ron.result c.in-Ron.is
    c.rows_from_ron.ensures.not_text c.rows_from_ron.ensures.err
