use Rattle.cookie_client.proofs.EndingBack.{ends_read_back, signed_read_back}
use Rattle.cookie_client.proofs.laws.ending_values_end.Goals as goal

pub returns-clause-current : goal.returns-clause-current
returns-clause-current c =
    ends_read_back c.lengths.ensures.code c.one_value.ensures.sealed c.printed_dates_are_read.ensures.read
    c.dates_are_of_one_moment.ensures c.args.ring.now

pub returns-clause-signed : goal.returns-clause-signed
returns-clause-signed c =
    signed_read_back c.lengths.ensures.code c.printed_dates_are_read.ensures.read c.dates_are_of_one_moment.ensures
    c.args.ring.now
