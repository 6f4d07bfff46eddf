-- No host of a URL of a special scheme ends with a dot and an address (the URL Standard, sections 3.5 and 4.2).
use Rattle.std.proofs.Common.{◌≡◌, ℕ, ◌<◌, ◌^◌, Bool, true, false, List, [], ◌∷◌, ◌++◌, length, get_or, codes, decimal}
use Rattle.std.proofs.Common.{All, Option, Some, None, sym, refl, ap, ◌∙◌, subst, inl, inr, append_assoc, arith}
use Rattle.std.specs.Prelude.{option_map, MatchOption, if◌then◌else◌}
use Rattle.std.specs.Int.{IsInRange}
use Rattle.std.specs.Char.{is_ascii_digit}
use Rattle.std.specs.Net.Addr.{ipv4_octets, ipv6_segments, segments_of}
use Rattle.std.specs.Net.Grammar.{IsGroupsAfter, IsGroups, IsColonHex}
use Rattle.std.specs.Net.Text.{dotted_text, hex_groups_text}
use Rattle.std.proofs.Math.Seq.{get_or-append_seam}
use Rattle.std.proofs.NetLemmas.Alphabet.{IsHexOrColon, All-hex_groups_text}
use Rattle.std.proofs.NetLemmas.Texts.{IsDotted-ipv4_text}
use Rattle.std.proofs.lemmas.Bool.{both_ways}
use Rattle.std.proofs.lemmas.Bool.Decides.{nat_tests}
use Rattle.std.proofs.lemmas.Fmt.{decimal_is_IsNumeral}
use Rattle.std.proofs.lemmas.List.{length-append}
use Rattle.std.proofs.lemmas.List.Elements.{All-nil, All-cons, All-append, All-get_or, All-weaker}
use Rattle.std.proofs.lemmas.Option.{none-some}
use Rattle.url.specs.Host.{host_text, IsDomain, IsDomainOf, IsHostOf}
use Rattle.url.specs.Ipv4.{ends_in_a_number}
use Rattle.url.specs.Parts.{kind_of, has_host}
use Rattle.url.specs.Scheme.{is_special}
use Rattle.url.specs.declared.host.Host.{Host}
use Rattle.url.specs.declared.host.Host.TheVariants.{Domain, Ipv4, Ipv6}
use Rattle.url.specs.declared.scheme.SchemeType.{SchemeType}
use Rattle.url.specs.declared.scheme.SchemeType.TheVariants.{File, SpecialNotFile, NotSpecial}
use Rattle.url.specs.declared.sets.TheConstants.{FORBIDDEN_DOMAIN}
use Rattle.url.proofs.HostRoundTrip.{All-decimal}
use Rattle.url.proofs.InputLemmas.{IsNot, Passes, rsplit_once_at, list_all_from_All, is_empty_nonempty}
use Rattle.url.proofs.SetLemmas.{All_kept_differs}
use Rattle.cookie_run.specs.SharedHosts.{EndsInNoAddress, SpecialHostsEndInNoAddress}

-- ---- a domain

-- what ends with a dot and an IPv4 address ends in a number
number_behind : (before : List ℕ) (a b c d : ℕ) → d < 256
    → ends_in_a_number (before ++ 46 ∷ dotted_text a b c d) ≡ true
unfolding ends_in_a_number
number_behind before a b c d fits =
    let small : d < 2 ^ 64 = omega arith in
    let digits = All-decimal d small in
    let front = before ++ 46 ∷ (decimal a ++ 46 ∷ (decimal b ++ 46 ∷ decimal c)) in
    let whole : before ++ 46 ∷ dotted_text a b c d
    ≡ (before ++ 46 ∷ (decimal a ++ 46 ∷ (decimal b ++ 46 ∷ decimal c))) ++ 46 ∷ decimal d = simp append_assoc in
    let no_dot = All-weaker (IsInRange 48 57) (IsNot 46) (λ b h. omega arith) (decimal d) digits in
    let some = is_empty_nonempty (decimal d) (decimal_is_IsNumeral d small).0.0 in
    let all = list_all_from_All is_ascii_digit (decimal d)
    (All-weaker (IsInRange 48 57) (Passes is_ascii_digit) (λ b h. grind (arith, nat_tests)) (decimal d) digits) in
    rw (whole, rsplit_once_at 46 front (decimal d) no_dot, some, some, all)

-- an IPv6 address has a colon
abbrev HasColon : List ℕ → Type 0
HasColon text = (front : List ℕ) × (back : List ℕ) × (text ≡ front ++ 58 ∷ back)

later_colon : (rest : List ℕ) (s : ℕ) (more : List ℕ) → IsGroupsAfter true (codes ":") rest (s ∷ more) → HasColon rest
later_colon rest s more (inl g) = ([], g.0 ++ g.1, g.2)
later_colon rest s more (inr d) = ([], d.0, d.3)

groups_colon : (text segments : List ℕ) → IsGroups true text segments → length segments ≡ 8 → HasColon text
groups_colon text [] g e = absurd (omega (arith, e))
groups_colon text (s ∷ []) g e = absurd (omega (arith, e))
groups_colon text (s ∷ t ∷ more) (inl g) e =
    let r = later_colon g.1 t more g.4 in
    (g.0 ++ r.0, r.1, g.2 ∙ (ap (λ x. g.0 ++ x) r.2 ∙ sym (append_assoc g.0 r.0 (58 ∷ r.1))))
groups_colon text (s ∷ t ∷ more) (inr d) e =
    let two : length (s ∷ t ∷ more) ≡ 2 = ap length d.5 ∙ ap (λ o. length (segments_of o)) d.4.value in
    absurd (omega (arith, e, two))

has_colon : (text segments : List ℕ) → IsColonHex text segments → HasColon text
has_colon text segments (inl g) = groups_colon text segments g.0 g.1
has_colon text segments (inr e) =
    (e.head_text, 58 ∷ e.tail_text, e.spelled ∙ append_assoc e.head_text (codes "::") e.tail_text)

no_byte : (b : ℕ) (xs front back : List ℕ) → All (IsNot b) xs → xs ≡ front ++ b ∷ back → ⊥
no_byte b xs front back all is =
    let long : length front < length xs = omega (arith, ap length is ∙ length-append front (b ∷ back)) in
    All-get_or (IsNot b) xs (length front) 0 long all
    (ap (λ l. get_or l (length front) 0) is ∙ get_or-append_seam front b back 0)

domain_ends : (domain : List ℕ) → IsDomain domain → EndsInNoAddress domain
domain_ends domain is text (inl same) = inl same
domain_ends domain is text (inr below) = inr (record {
  no_ipv4 = λ h.
      both_ways _ is.named (ap ends_in_a_number (below.1.1 ∙ ap (λ t. below.1.0 ++ 46 ∷ t) h.1.spelled)
      ∙ number_behind below.1.0 h.1.a h.1.b h.1.c h.1.d h.1.fit.3);
  no_ipv6 = λ h.
      let c = has_colon text h.0 h.1 in
      no_byte 58 domain (below.1.0 ++ 46 ∷ c.0) c.1 (All_kept_differs FORBIDDEN_DOMAIN 58 refl domain is.allowed)
      (below.1.1 ∙ (ap (λ t. below.1.0 ++ 46 ∷ t) c.2 ∙ sym (append_assoc below.1.0 (46 ∷ c.0) (58 ∷ c.1))));
})

named_ends : (kind : SchemeType) (domain : List ℕ) → is_special kind ≡ true → IsDomainOf kind domain
    → EndsInNoAddress domain
named_ends File domain special is = domain_ends domain is
named_ends SpecialNotFile domain special is = domain_ends domain is.0
named_ends NotSpecial domain special is = absurd (both_ways _ refl special)

-- ---- a host

no_dot_in_hex : (b : ℕ) → IsHexOrColon b → IsNot 46 b
no_dot_in_hex b (inl h) = λ e. omega (arith, h, e)
no_dot_in_hex b (inr h) = λ e. omega (arith, h, e)

host_ends : (kind : SchemeType) (host : Host (List ℕ)) → is_special kind ≡ true → IsHostOf kind host
    → EndsInNoAddress (host_text host)
host_ends kind (Domain domain) special is = named_ends kind domain special is
host_ends kind (Ipv4 address) special is = ends
  where
    ends : EndsInNoAddress (host_text (Ipv4 address))
    ends text (inl same) = inl same
    ends text (inr below) =
        absurd (below.0.no_ipv4 (ipv4_octets address, IsDotted-ipv4_text (ipv4_octets address) is.0 is.1))
host_ends kind (Ipv6 address) special is = ends
  where
    hex : List ℕ
    hex = hex_groups_text (ipv6_segments address)

    all : All (IsNot 46) (host_text (Ipv6 address))
    all = All-append (IsNot 46) (91 ∷ hex) (93 ∷ [])
        (All-cons (IsNot 46) 91 hex (λ e. omega (arith, e))
        (All-weaker IsHexOrColon (IsNot 46) no_dot_in_hex hex (All-hex_groups_text _ is.1)))
        (All-cons (IsNot 46) 93 [] (λ e. omega (arith, e)) (All-nil (IsNot 46)))

    ends : EndsInNoAddress (host_text (Ipv6 address))
    ends text (inl same) = inl same
    ends text (inr below) = absurd (no_byte 46 _ below.1.0 text all below.1.1)

-- ---- a URL

some_host : (found : Option (Host (List ℕ))) (b : Bool) (text : List ℕ)
    → option_map host_text (if b then found else None) ≡ Some text
    → (host : Host (List ℕ)) × (found ≡ Some host) × (host_text host ≡ text)
some_host None true text e = absurd (none-some _ e)
some_host None false text e = absurd (none-some _ e)
some_host (Some host) false text e = absurd (none-some _ e)
some_host (Some host) true text e = let same : host_text host ≡ text = cc in (host, refl, same)

pub special_ends : SpecialHostsEndInNoAddress
special_ends url valid special text is =
    let host = some_host url.host (has_host url) text is in
    subst EndsInNoAddress host.2 (host_ends (kind_of url) host.0 special
    (subst (λ o. MatchOption o (is_special (kind_of url) ≡ false) (IsHostOf (kind_of url))) host.1 valid.head.host))
