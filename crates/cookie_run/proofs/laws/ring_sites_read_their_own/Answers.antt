use Rattle.std.proofs.Common.{◌≡◌, ◌∙◌, ◌-◌, ap, length, length-drop, List, ℕ}
use Rattle.cookie.specs.Key.{encryption_half}
use Rattle.cookie_run.proofs.EndingDeaths.{ends_are_deaths}
use Rattle.cookie_run.proofs.Exchange.{Laws}
use Rattle.cookie_run.proofs.Promises.{ends_late}
use Rattle.cookie_client.proofs.Promises.{line_utf8}
use Rattle.cookie_run.proofs.RingMirrors.{RingLaws}
use Rattle.cookie_run.proofs.RingSites.{ring_hosts_read, ring_setters_read, ring_sites_read}
use Rattle.cookie_run.proofs.Showing.{OnlyOne}
use Rattle.cookie_run.proofs.laws.ring_sites_read_their_own.Goals as goal

pub returns-clause-sites : goal.returns-clause-sites
returns-clause-sites c =
    let ring : RingLaws =
    record {
      sizes = c.lengths.ensures.code;
      one = c.one_value.ensures.sealed;
      signed = c.texts_are_utf8.ensures.signed;
      sealed = c.texts_are_utf8.ensures.sealed;
      printed = c.printed_dates_are_read.ensures.read;
      moment = c.dates_are_of_one_moment.ensures;
    } in
    let each : (key : List ℕ) → length key ≡ 64 → Laws key =
    λ key long.
    let half : length (encryption_half key) ≡ 32 = length-drop 32 key ∙ ap (λ (n : ℕ). n - 32) long in
    let one : OnlyOne key =
    record {
      signed = c.one_value.ensures.signed key;
      sealed = λ name v w text. c.one_value.ensures.sealed key name v w text half;
      signed_text = c.texts_are_utf8.ensures.signed;
      sealed_text = c.texts_are_utf8.ensures.sealed;
    } in
    record {
      back = c.encoded_records_read_back.ensures;
      only = one;
      utf8 = line_utf8;
      again = c.pairs_read_again.ensures.again;
      given = c.pairs_read_again.ensures.read;
    } in
    ring_sites_read ring each ends_late

pub returns-clause-hosts : goal.returns-clause-hosts
returns-clause-hosts c =
    let ring : RingLaws =
    record {
      sizes = c.lengths.ensures.code;
      one = c.one_value.ensures.sealed;
      signed = c.texts_are_utf8.ensures.signed;
      sealed = c.texts_are_utf8.ensures.sealed;
      printed = c.printed_dates_are_read.ensures.read;
      moment = c.dates_are_of_one_moment.ensures;
    } in
    let each : (key : List ℕ) → length key ≡ 64 → Laws key =
    λ key long.
    let half : length (encryption_half key) ≡ 32 = length-drop 32 key ∙ ap (λ (n : ℕ). n - 32) long in
    let one : OnlyOne key =
    record {
      signed = c.one_value.ensures.signed key;
      sealed = λ name v w text. c.one_value.ensures.sealed key name v w text half;
      signed_text = c.texts_are_utf8.ensures.signed;
      sealed_text = c.texts_are_utf8.ensures.sealed;
    } in
    record {
      back = c.encoded_records_read_back.ensures;
      only = one;
      utf8 = line_utf8;
      again = c.pairs_read_again.ensures.again;
      given = c.pairs_read_again.ensures.read;
    } in
    ring_hosts_read (ring_setters_read ring each ends_late)

pub returns-clause-setters : goal.returns-clause-setters
returns-clause-setters c =
    let ring : RingLaws =
    record {
      sizes = c.lengths.ensures.code;
      one = c.one_value.ensures.sealed;
      signed = c.texts_are_utf8.ensures.signed;
      sealed = c.texts_are_utf8.ensures.sealed;
      printed = c.printed_dates_are_read.ensures.read;
      moment = c.dates_are_of_one_moment.ensures;
    } in
    let each : (key : List ℕ) → length key ≡ 64 → Laws key =
    λ key long.
    let half : length (encryption_half key) ≡ 32 = length-drop 32 key ∙ ap (λ (n : ℕ). n - 32) long in
    let one : OnlyOne key =
    record {
      signed = c.one_value.ensures.signed key;
      sealed = λ name v w text. c.one_value.ensures.sealed key name v w text half;
      signed_text = c.texts_are_utf8.ensures.signed;
      sealed_text = c.texts_are_utf8.ensures.sealed;
    } in
    record {
      back = c.encoded_records_read_back.ensures;
      only = one;
      utf8 = line_utf8;
      again = c.pairs_read_again.ensures.again;
      given = c.pairs_read_again.ensures.read;
    } in
    ring_setters_read ring each ends_late

pub returns-clause-ends : goal.returns-clause-ends
returns-clause-ends c = ends_are_deaths
