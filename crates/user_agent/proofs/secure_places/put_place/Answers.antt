use Rattle.std.proofs.Common.{◌∙◌, ap, sym}
use Rattle.percent_encoding.specs.Percent.{percent_decode}
use Rattle.cookie_store.specs.StoredCookie.{stored_of}
use Rattle.cookie_text.specs.Record.{Seen}
use Rattle.user_agent.proofs.PlaceLemmas.{put_more}
use Rattle.user_agent.proofs.secure_places.put_place.Goals as goal

pub returns : goal.returns
returns c =
    put_more c.args.places.now c.take_places-of_name.new.places c.insert.new.self c.in_ok-name.name
    c.as_slice.result.now c.take_places-of_name.result _ c.in_ok-place.place (stored_of c.args.row.now)
    c.as_slice.ensures.value c.take_places-of_name.ensures.those c.take_places-of_name.ensures.others
    c.in_ok-push.ensures.items c.in_ok-insert.ensures.entries
    (c.in_ok-name.ensures
    ∙ ap percent_decode (c.name.ensures ∙ ap (λ (s : Seen). s.cookie.name) c.raw.ensures))
    c.in_ok-place.ensures
