use Rattle.std.proofs.Common.{ap, length, sym, ◌∙◌}
use Rattle.cookie_run.proofs.Showing.{OnlyOne}
use Rattle.cookie_run.proofs.Exchange.{Laws}
use Rattle.cookie_run.proofs.Promises.{ends_late}
use Rattle.cookie_client.proofs.Promises.{line_utf8}
use Rattle.cookie_run.proofs.Sites.{sites_read, sites_read_until}
use Rattle.cookie_run.proofs.laws.sites_read_their_own.Goals as goal

pub returns-clause-whole : goal.returns-clause-whole
returns-clause-whole c =
    let half = ap length (sym c.encryption.ensures.half) ∙ c.encryption.ensures.len in
    let one : OnlyOne c.args.key.now =
    record {
      signed = c.one_value.ensures.signed c.args.key.now;
      sealed = λ name v w text. c.one_value.ensures.sealed c.args.key.now name v w text half;
      signed_text = c.texts_are_utf8.ensures.signed;
      sealed_text = c.texts_are_utf8.ensures.sealed;
    } in
    let laws : Laws c.args.key.now =
    record {
      back = c.encoded_records_read_back.ensures;
      only = one;
      utf8 = line_utf8;
      again = c.pairs_read_again.ensures.again;
      given = c.pairs_read_again.ensures.read;
    } in
    sites_read c.args.key.now laws ends_late

pub returns-clause-until : goal.returns-clause-until
returns-clause-until c =
    let half = ap length (sym c.encryption.ensures.half) ∙ c.encryption.ensures.len in
    let one : OnlyOne c.args.key.now =
    record {
      signed = c.one_value.ensures.signed c.args.key.now;
      sealed = λ name v w text. c.one_value.ensures.sealed c.args.key.now name v w text half;
      signed_text = c.texts_are_utf8.ensures.signed;
      sealed_text = c.texts_are_utf8.ensures.sealed;
    } in
    let laws : Laws c.args.key.now =
    record {
      back = c.encoded_records_read_back.ensures;
      only = one;
      utf8 = line_utf8;
      again = c.pairs_read_again.ensures.again;
      given = c.pairs_read_again.ensures.read;
    } in
    sites_read_until c.args.key.now laws ends_late
