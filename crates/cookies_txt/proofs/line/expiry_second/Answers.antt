use Rattle.std.proofs.Common.{w64, sym, ap, ◌∙◌}
use Rattle.std.proofs.lemmas.Int.{to_z-of_z}
use Rattle.jiff_core.specs.DateTime.{civil_seconds}
use Rattle.cookies_txt.specs.Writing.{clamped}
use Rattle.store_parts.proofs.ExpiryLemmas.{whole_second_shown}
use Rattle.cookies_txt.proofs.line.expiry_second.Goals as goal

pub returns-in-AtUtc : goal.returns-in-AtUtc
returns-in-AtUtc c =
    let second = to_z-of_z w64 c.to_second.result (record { sfits = c.to_second.type_inv }) ∙ (c.to_second.ensures.value
    ∙ (ap civil_seconds c.to_plain.ensures ∙ sym (whole_second_shown c.in-AtUtc.moment))) in
    rw c.in-AtUtc.is (c.clamped.ensures ∙ ap clamped second)
