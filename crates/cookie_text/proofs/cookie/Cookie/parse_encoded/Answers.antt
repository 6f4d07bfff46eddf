use Rattle.std.proofs.Common.{lit<}
use Rattle.std.proofs.lemmas.Str.Pattern.{split_once_first}
use Rattle.cookie_text.proofs.DecodingLemmas.{ReadsEncoded-further, ReadsEncoded-whole}
use Rattle.cookie_text.proofs.cookie.Cookie.parse_encoded.Goals as goal

pub returns-in_ok-cookie-in-Some : goal.returns-in_ok-cookie-in-Some
returns-in_ok-cookie-in-Some c =
    let cut = rw c.in-Some.is at (split_once_first 59 c.args.text.now c.split_once.result c.split_once.ensures.cases
    (lit< tt)) in
    ReadsEncoded-further c.args.text.now c.in-Some.first.now c.in-Some.rest.now c.in_ok-cookie-in-Some.cookie
    c.read_attributes.new.self cut.0 cut.1 cut.2 c.in_ok-cookie-in-Some.ensures c.read_attributes.ensures

pub returns-in-None : goal.returns-in-None
returns-in-None c =
    let cut = rw c.in-None.is at (split_once_first 59 c.args.text.now c.split_once.result c.split_once.ensures.cases
    (lit< tt)) in
    ReadsEncoded-whole c.args.text.now c.read_encoded_pair-in-None.result cut c.read_encoded_pair-in-None.ensures
