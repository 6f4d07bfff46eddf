use Rattle.std.proofs.Common.{Ok, ap, sym, subst}
use Rattle.cookie_text.specs.Decoding.{ReadsEncoded}
use Rattle.cookie_client.proofs.Refusals.{gives_none, gives_shown}
use Rattle.cookie_client.proofs.reading.header_cookie.Goals as goal

pub returns-in_default : goal.returns-in_default
returns-in_default c = λ utf8. absurd (c.in_default.ensures.cases.0 utf8)

pub returns-in-Ok-parse_encoded : goal.returns-in-Ok-parse_encoded
returns-in-Ok-parse_encoded c =
    gives_shown c.args.shown c.given.result c.args.piece.now c.in-Ok-parse_encoded.cookie c.in-Ok.ensures.cases.1
    (subst (λ t. ReadsEncoded t (Ok c.in-Ok-parse_encoded.cookie)) c.in-Ok.ensures.cases.0
    c.in-Ok-parse_encoded.ensures) c.given.ensures.hidden c.given.ensures.seen

pub returns-in-Err : goal.returns-in-Err
returns-in-Err c =
    gives_none c.args.shown c.unread.result c.args.piece.now c.in-Ok.text.now c.in-Err.error c.in-Ok.ensures.cases.0
    c.in-Err.ensures c.unread.ensures.none c.unread.ensures.other
