-- Where the code of a signing ends, and its value begins.
use Rattle.std.proofs.Common.{◌≡◌, ℕ, ◌+◌, ◌-◌, ◌*◌, ◌/◌, ◌%◌, List, ◌++◌, length, take, drop, ap, sym, subst, ◌∙◌}
use Rattle.std.proofs.Common.{arith, replicate, length-append}
use Rattle.std.proofs.lemmas.List.{length-replicate, take-append-drop}
use Rattle.std.proofs.lemmas.Str.{IsUtf8-from_ascii, IsCharBoundary-from_take}
use Rattle.std.proofs.Math.Seq.{take-append_seam, drop-append_seam}
use Rattle.std.specs.Str.{IsUtf8, IsCharBoundary}
use Rattle.base64.specs.Engines.{standard}
use Rattle.base64.specs.Rfc4648.{encode_symbols}
use Rattle.base64.proofs.EngineFacts.{IsAscii-encode_of}
use Rattle.base64.proofs.RoundTrip.{length-encode_symbols}
use Rattle.seal.specs.Hmac.{hmac}
use Rattle.cookie.specs.Key.{signing_half}
use Rattle.cookie.specs.Base64.{base64}
use Rattle.cookie.specs.Signing.{signing}

-- that each code has 32 bytes
abbrev pub CodesHave32 : Type 0
CodesHave32 = (key text : List ℕ) → length (hmac key text) ≡ 32

-- of 32 bytes there are 43 symbols and one `=`
length-base64 : (m : List ℕ) → length m ≡ 32 → length (base64 m) ≡ 44
length-base64 m long =
    let symbols : List ℕ = encode_symbols standard.encode_table m in
    let size : length symbols ≡ 43 =
    length-encode_symbols standard.encode_table m ∙ ap (λ (n : ℕ). (4 * n + 2) / 3) long in
    let padding : length (replicate ((3 - length m % 3) % 3) 61) ≡ 1 =
    length-replicate ((3 - length m % 3) % 3) 61 ∙ ap (λ (n : ℕ). (3 - n % 3) % 3) long in
    length-append symbols (replicate ((3 - length m % 3) % 3) 61) ∙ (λ i. size i + padding i)

abbrev pub code : List ℕ → List ℕ → List ℕ
code key value = base64 (hmac (signing_half key) value)

length-code : CodesHave32 → (key value : List ℕ) → length (code key value) ≡ 44
length-code sizes key value = length-base64 (hmac (signing_half key) value) (sizes (signing_half key) value)

take-signing : CodesHave32 → (key value text : List ℕ) → text ≡ signing key value → take 44 text ≡ code key value
take-signing sizes key value text e =
    ap (take 44) e ∙ (λ i. take (sym (length-code sizes key value) i) (signing key value))
    ∙ take-append_seam (code key value) value

pub drop-signing : CodesHave32 → (key value text : List ℕ) → text ≡ signing key value → drop 44 text ≡ value
drop-signing sizes key value text e =
    ap (drop 44) e ∙ (λ i. drop (sym (length-code sizes key value) i) (signing key value))
    ∙ drop-append_seam (code key value) value

-- a signing can be cut there
pub boundary_of_signing : CodesHave32 → (key value text : List ℕ) → IsUtf8 text → text ≡ signing key value
    → IsCharBoundary text 44
boundary_of_signing sizes key value text utf8 e =
    let front : IsUtf8 (take 44 text) =
    subst IsUtf8 (sym (take-signing sizes key value text e))
    (IsUtf8-from_ascii (code key value) (IsAscii-encode_of standard _)) in
    let long : length text ≡ 44 + length value =
    ap length e ∙ length-append (code key value) value ∙ (λ i. length-code sizes key value i + length value) in
    IsCharBoundary-from_take text 44 utf8 (omega arith) front

-- a text is a signing where its front is the code of the rest
pub signing_from_parts : (key value text front : List ℕ) → front ≡ take 44 text → value ≡ drop 44 text
    → front ≡ code key value
    → text ≡ signing key value
signing_from_parts key value text front front_is value_is same =
    sym (take-append-drop 44 text) ∙ (λ i. (sym front_is ∙ same) i ++ sym value_is i)

-- and its parts are those
pub parts_of_signing : CodesHave32 → (key value text front rest : List ℕ) → front ≡ take 44 text → rest ≡ drop 44 text
    → text ≡ signing key value → (front ≡ code key rest) × (rest ≡ value)
parts_of_signing sizes key value text front rest front_is rest_is e =
    let value_is : rest ≡ value = rest_is ∙ drop-signing sizes key value text e in
    (front_is ∙ take-signing sizes key value text e ∙ ap (code key) (sym value_is), value_is)
