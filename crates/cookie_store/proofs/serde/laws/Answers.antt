use Rattle.cookie_store.proofs.RereadLemmas.{ron_back, ron_read, json_back, json_read}
use Rattle.cookie_store.proofs.serde.laws.Goals as goal

pub returns-clause-ron : goal.returns-clause-ron
returns-clause-ron c = ron_back c.printed_dates_are_read.ensures.read c.printed_dates_are_read.ensures.dropped
    c.dates_are_of_one_moment.ensures c.written_is_of_grammar.ensures

pub returns-clause-ron_read : goal.returns-clause-ron_read
returns-clause-ron_read c = ron_read c.printed_dates_are_read.ensures.read c.printed_dates_are_read.ensures.dropped
    c.dates_are_of_one_moment.ensures c.written_is_of_grammar.ensures

pub returns-clause-json : goal.returns-clause-json
returns-clause-json c = json_back c.printed_dates_are_read.ensures.read c.printed_dates_are_read.ensures.dropped
    c.dates_are_of_one_moment.ensures c.lists_read_back.ensures

pub returns-clause-json_read : goal.returns-clause-json_read
returns-clause-json_read c = json_read c.printed_dates_are_read.ensures.read c.printed_dates_are_read.ensures.dropped
    c.dates_are_of_one_moment.ensures c.lists_read_back.ensures
