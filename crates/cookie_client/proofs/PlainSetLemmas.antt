-- A signed and a sealed set as plain ones.
use Rattle.std.proofs.Common.{ℕ, List, refl}
use Rattle.std.specs.Str.{IsUtf8}
use Rattle.cookie.specs.Sealing.{IsSealing}
use Rattle.cookie.specs.Signing.{signing}
use Rattle.cookie_client.specs.PlainSets.{SignedSetsArePlain, SealedSetsArePlain}
use Rattle.cookie_client.specs.Ways.{is_too_long, refusal_of}
use Rattle.cookie_client.specs.declared.way.Way.TheVariants.{Sealed}
use Rattle.cookie_client.proofs.Sessions.{then_none}

pub signed_plain : ((k value : List ℕ) → IsUtf8 value → IsUtf8 (signing k value)) → SignedSetsArePlain
signed_plain utf8 old new s h = record {
  name = h.name;
  value = utf8 old.key s.cookie.value h.value;
  age = h.age;
  accepted = h.accepted;
  key_is = h.key_is;
  keeps = h.keeps;
}

pub sealed_plain : ((k name value text : List ℕ) → IsSealing k name value text → IsUtf8 text) → SealedSetsArePlain
sealed_plain utf8 old new s h =
    let kept = h.keeps.1 in
    let sealing : IsSealing old.key s.cookie.name s.cookie.value kept.2.0 = (kept.0, kept.2.1, kept.2.2) in
    let free = then_none (refusal_of s.cookie.name s.cookie.expires) (is_too_long Sealed s.cookie.name s.cookie.value)
    h.accepted in (
      kept.2.0,
      sealing,
      record {
        name = h.name;
        value = utf8 old.key s.cookie.name s.cookie.value kept.2.0 sealing;
        age = h.age;
        accepted = rw free.0 refl;
        key_is = h.key_is;
        keeps = (h.keeps.0, kept.2.3, h.keeps.2);
      },
    )
