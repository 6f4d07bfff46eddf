-- Where a host is cut before a domain; and a text is no address exactly where std's parser of addresses refuses it.
use Rattle.std.proofs.Common.{◌≡◌, ◌↔◌, ◌++◌, ℕ, List, [], ◌∷◌, true, refl, sym, ap, ◌∙◌, append_assoc}
use Rattle.std.specs.Prelude.{Result, Ok, Err, is_err}
use Rattle.std.specs.Net.Grammar.{Parses, IsIpv4Text, IsIpv6Text}
use Rattle.std.specs.declared.net.ipv4_addr.Ipv4Addr.{Ipv4Addr}
use Rattle.std.specs.declared.net.ipv6_addr.Ipv6Addr.{Ipv6Addr}
use Rattle.std.proofs.lemmas.Bool.{false≢true}
use Rattle.std.proofs.lemmas.List.{append_cancel_right}
use Rattle.matching.specs.Domains.{EndsAfterDot, IsIpv4, IsIpv6, dot}

-- the host ends with the domain after a dot where what stands before the domain ends with one
pub EndsAfterDot-append : (host before domain : List ℕ) → host ≡ before ++ domain
    → EndsAfterDot host domain ↔ ((front : List ℕ) × (before ≡ front ++ dot ∷ []))
EndsAfterDot-append host before domain split = (
  λ (front, e). (
    front,
    append_cancel_right before (front ++ dot ∷ []) domain
        (sym split ∙ e ∙ sym (append_assoc front (dot ∷ []) domain)),
  ),
  λ (front, e).
      (front, split ∙ ap (λ b. b ++ domain) e ∙ append_assoc front (dot ∷ []) domain),
)

-- a host that ends so ends with the domain
pub EndsAfterDot-end : (host domain : List ℕ) → EndsAfterDot host domain
    → (before : List ℕ) × (host ≡ before ++ domain)
EndsAfterDot-end host domain (front, e) =
    (front ++ dot ∷ [], e ∙ sym (append_assoc front (dot ∷ []) domain))

pub is_err-ipv4 : {E : Type 0} (text : List ℕ) (r : Result Ipv4Addr E) → Parses IsIpv4Text text r
    → (is_err r ≡ true) ↔ (¬ (IsIpv4 text))
is_err-ipv4 text (Ok a) spelled =
    (λ e. absurd (false≢true e), λ none. absurd (none (a.octets, spelled)))
is_err-ipv4 text (Err e) none = (λ _ found. none (record { octets = found.0 }) found.1, λ _. refl)

pub is_err-ipv6 : {E : Type 0} (text : List ℕ) (r : Result Ipv6Addr E) → Parses IsIpv6Text text r
    → (is_err r ≡ true) ↔ (¬ (IsIpv6 text))
is_err-ipv6 text (Ok a) spelled =
    (λ e. absurd (false≢true e), λ none. absurd (none (a.segments, spelled)))
is_err-ipv6 text (Err e) none = (λ _ found. none (record { segments = found.0 }) found.1, λ _. refl)
