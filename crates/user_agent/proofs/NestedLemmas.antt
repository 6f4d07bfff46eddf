-- Two texts that the host of one request domain-matches domain-match one another: behind a dot of a host that was
-- parsed stands no text of an address.
use Rattle.std.proofs.Common.{◌≡◌, ◌⊎◌, ℕ, suc, ◌<◌, ◌==◌, ◌||◌, Bool, true, false, cond, All, List, []}
use Rattle.std.proofs.Common.{◌∷◌, ◌++◌, length, decimal, Option, Some, None, sym, refl, ap, ◌∙◌, subst, inl, inr}
use Rattle.std.proofs.Common.{append_assoc, arith}
use Rattle.std.specs.Prelude.{codes, option_map, IsSomeAnd, MatchOption}
use Rattle.std.specs.Char.{is_ascii_digit}
use Rattle.std.specs.Int.{IsInRange}
use Rattle.std.specs.List.{list_all, list_any}
use Rattle.std.specs.Net.Addr.{ipv4_octets, ipv6_segments, segments_of}
use Rattle.std.specs.Net.Grammar.{IsDotted, IsColonHex, IsGroupsAfter}
use Rattle.std.specs.Net.Text.{hex_groups_text}
use Rattle.std.proofs.NetLemmas.Alphabet.{IsHexOrColon, All-hex_groups_text}
use Rattle.std.proofs.NetLemmas.Texts.{IsDotted-ipv4_text}
use Rattle.std.proofs.lemmas.Bool.{both_ways}
use Rattle.std.proofs.lemmas.Bool.Decides.{nat_tests}
use Rattle.std.proofs.lemmas.Fmt.{decimal_is_IsNumeral}
use Rattle.std.proofs.lemmas.List.Elements.{All-append, All-head, All-tail, All-weaker, All-cons, All-nil}
use Rattle.std.proofs.lemmas.Option.{same_Some}
use Rattle.url.specs.Host.{IsDomain, IsHostOf, host_text}
use Rattle.url.specs.Ipv4.{ends_in_a_number}
use Rattle.url.specs.Parts.{Parts, IsValid, has_host, kind_of, nonempty_host}
use Rattle.url.specs.Scheme.{default_port, is_special, scheme_type}
use Rattle.url.specs.declared.host.Host.{Host}
use Rattle.url.specs.declared.host.Host.TheVariants as hosts
use Rattle.url.specs.declared.scheme.SchemeType.{SchemeType}
use Rattle.url.specs.declared.scheme.SchemeType.TheVariants.{SpecialNotFile}
use Rattle.url.specs.declared.sets.TheConstants.{FORBIDDEN_DOMAIN}
use Rattle.url.proofs.HostRoundTrip.{All-decimal}
use Rattle.url.proofs.InputLemmas.{IsNot, Passes, is_empty_nonempty, list_all_from_All, rsplit_once_at}
use Rattle.url.proofs.SetLemmas.{All_kept_differs}
use Rattle.store_parts.specs.DomainMatch.{Domain, host_only, suffix, not_present, empty, text_or_empty, Covers}
use Rattle.store_parts.specs.DomainMatch.{CoversAt, DomainMatches, EndsAfterDot, IsHostName}
use Rattle.store_parts.specs.Schemes.{IsSecure, IsThisHost, host_of}
use Rattle.user_agent.specs.Refusals.{AreNested}

-- ---- texts

all_middle : (P : ℕ → Type 0) (xs : List ℕ) (y : ℕ) (ys : List ℕ) → All P (xs ++ y ∷ ys) → P y
all_middle P [] y ys h = All-head P y ys h
all_middle P (x ∷ xs) y ys h = all_middle P xs y ys (All-tail P x (xs ++ y ∷ ys) h)

or_true : (b : Bool) → (b || true) ≡ true
or_true true = refl
or_true false = refl

any_middle : (test : ℕ → Bool) (xs : List ℕ) (y : ℕ) (ys : List ℕ) → test y ≡ true
    → list_any test (xs ++ y ∷ ys) ≡ true
any_middle test [] y ys e = ap (λ b. b || list_any test ys) e
any_middle test (x ∷ xs) y ys e = ap (λ b. test x || b) (any_middle test xs y ys e) ∙ or_true (test x)

-- ---- the text of an address

no_dot : (n : ℕ) → n < 256 → All (IsNot 46) (decimal n)
no_dot n fits = All-weaker (IsInRange 48 57) (IsNot 46) (λ b h. omega arith) (decimal n) (All-decimal n (omega arith))

all_digits : (n : ℕ) → n < 256 → list_all is_ascii_digit (decimal n) ≡ true
all_digits n fits =
    list_all_from_All is_ascii_digit (decimal n)
    (All-weaker (IsInRange 48 57) (Passes is_ascii_digit) (λ b h. grind (arith, nat_tests)) (decimal n)
    (All-decimal n (omega arith)))

ends_numbered : (front : List ℕ) (d : ℕ) → d < 256 → ends_in_a_number (front ++ 46 ∷ decimal d) ≡ true
unfolding ends_in_a_number
ends_numbered front d hd =
    let some = is_empty_nonempty (decimal d) (decimal_is_IsNumeral d (omega arith)).0.0 in
    rw (rsplit_once_at 46 front (decimal d) (no_dot d hd), some, some, all_digits d hd)

-- a host that ends so in the text of an IPv4 address ends in a number
dotted_numbered : (before text octets : List ℕ) → IsDotted text octets → ends_in_a_number (before ++ 46 ∷ text) ≡ true
dotted_numbered before text octets h =
    let front = before ++ 46 ∷ (decimal h.a ++ 46 ∷ (decimal h.b ++ 46 ∷ decimal h.c)) in
    let cut : before ++ 46 ∷ text ≡ front ++ 46 ∷ decimal h.d =
    ap (λ t. before ++ 46 ∷ t) h.spelled ∙ simp append_assoc in
    ap ends_in_a_number cut ∙ ends_numbered front h.d h.fit.3

-- the text of an IPv6 address holds a colon
abbrev HasColon : List ℕ → Type 0
HasColon text = (front back : List ℕ) × (text ≡ front ++ 58 ∷ back)

colon_after : (text : List ℕ) (s : ℕ) (segments : List ℕ) → IsGroupsAfter true (codes ":") text (s ∷ segments)
    → (back : List ℕ) × (text ≡ 58 ∷ back)
colon_after text s segments (inl (group, rest, e, is, later)) = (group ++ rest, e)
colon_after text s segments (inr (last, octets, allowed, e, dotted, value)) = (last, e)

has_colon : (text segments : List ℕ) → IsColonHex text segments → HasColon text
has_colon text segments (inr h) =
    (h.head_text, 58 ∷ h.tail_text, h.spelled ∙ append_assoc h.head_text (58 ∷ 58 ∷ []) h.tail_text)
has_colon text [] (inl (groups, eight)) = absurd (let none : 0 ≡ 8 = eight in omega arith)
has_colon text (s ∷ []) (inl (groups, eight)) = absurd (let one : suc 0 ≡ 8 = eight in omega arith)
has_colon text (s ∷ u ∷ more) (inl (inl (group, rest, e, is, later), eight)) =
    let c = colon_after rest u more later in (group, c.0, e ∙ ap (λ r. group ++ r) c.1)
has_colon text (s ∷ u ∷ more) (inl (inr (last, octets, allowed, e, dotted, value), eight)) =
    let all : length (s ∷ u ∷ more) ≡ length (segments_of octets) = ap length value in
    let two : length (segments_of octets) ≡ 2 =
    ap (λ o. length (segments_of o)) dotted.value in
    absurd (omega (arith, all, two, eight))

-- ---- the host of a URL that was parsed

-- behind no dot of the text stands the text of an address
abbrev HasNoAddress : List ℕ → Type 0
HasNoAddress host = (text : List ℕ) → EndsAfterDot host text → IsHostName text

-- a domain of a web URL
domain_without : (host : List ℕ) → IsDomain host → HasNoAddress host
domain_without host is text (before, e) = record {
  no_ipv4 = λ (octets, dotted). both_ways (ends_in_a_number host) is.named
      (ap ends_in_a_number e ∙ dotted_numbered before text octets dotted);
  no_ipv6 = λ (segments, hex).
      let c = has_colon text segments hex in
      let cut : host ≡ (before ++ 46 ∷ c.0) ++ 58 ∷ c.1 =
      e ∙ (ap (λ t. before ++ 46 ∷ t) c.2 ∙ sym (append_assoc before (46 ∷ c.0) (58 ∷ c.1))) in
      all_middle (IsNot 58) (before ++ 46 ∷ c.0) 58 c.1
      (subst (All (IsNot 58)) cut (All_kept_differs FORBIDDEN_DOMAIN 58 refl host is.allowed)) refl;
}

-- a text without a dot
undotted_without : (host : List ℕ) → list_any (λ b. b == 46) host ≡ false → HasNoAddress host
undotted_without host none text (before, e) =
    absurd (both_ways (list_any (λ b. b == 46) host) none
    (ap (list_any (λ b. b == 46)) e ∙ any_middle (λ b. b == 46) before 46 text refl))

-- an IPv6 address between brackets
bracketed_without : (segments : List ℕ) → All IsHexOrColon (hex_groups_text segments)
    → HasNoAddress (host_text (hosts.Ipv6 (record { segments = segments })))
bracketed_without segments all text (before, e) =
    absurd (all_middle (IsNot 46) before 46 text (subst (All (IsNot 46)) e undotted) refl)
  where
    inner : All (IsNot 46) (hex_groups_text segments)
    inner = All-weaker IsHexOrColon (IsNot 46) (λ b h. grind arith) (hex_groups_text segments) all

    one : (b : ℕ) → IsNot 46 b → All (IsNot 46) (b ∷ [])
    one b h = All-cons (IsNot 46) b [] h (All-nil (IsNot 46))

    undotted : All (IsNot 46) (codes "[" ++ hex_groups_text segments ++ codes "]")
    undotted =
        All-append (IsNot 46) (codes "[" ++ hex_groups_text segments) (codes "]")
        (All-append (IsNot 46) (codes "[") (hex_groups_text segments) (one 91 (omega arith)) inner)
        (one 93 (omega arith))

-- a host that is none itself, of a web URL or this host
without : (kind : SchemeType) (h : Host (List ℕ)) → IsHostOf kind h → (kind ≡ SpecialNotFile) ⊎ IsThisHost h
    → IsHostName (host_text h) → HasNoAddress (host_text h)
without kind (hosts.Domain domain) valid (inl web) named =
    domain_without domain (subst (λ k. IsHostOf k (hosts.Domain domain)) web valid).0
without kind (hosts.Domain domain) valid (inr this) named =
    undotted_without domain (ap (list_any (λ b. b == 46)) this)
without kind (hosts.Ipv4 address) valid secure named =
    absurd (named.no_ipv4 (ipv4_octets address, IsDotted-ipv4_text (ipv4_octets address) valid.0 valid.1))
without kind (hosts.Ipv6 address) valid secure named =
    bracketed_without (ipv6_segments address) (All-hex_groups_text (ipv6_segments address) valid.1)

web_kind : scheme_type (codes "https") ≡ SpecialNotFile
unfolding scheme_type default_port
web_kind = refl

some_host : (url : Parts) (host : List ℕ) (b : Bool) (o : Option (Host (List ℕ)))
    → option_map host_text (cond b o None) ≡ Some host
    → (h : Host (List ℕ)) × (o ≡ Some h) × (cond b o None ≡ Some h) × (host_text h ≡ host)
some_host url host true (Some h) e = (h, refl, refl, same_Some (host_text h) host e)
some_host url host true None e = absurd (cc e)
some_host url host false o e = absurd (cc e)

host_without : (url : Parts) (host : List ℕ) → IsValid url → IsSecure url → host_of url ≡ Some host → IsHostName host
    → HasNoAddress host
host_without url host valid secure at named =
    let (h, is, shown, text) = some_host url host (has_host url) url.host at in
    let fits : IsHostOf (kind_of url) h =
    subst (λ o. MatchOption o (is_special (kind_of url) ≡ false) (IsHostOf (kind_of url))) is valid.head.host in
    subst HasNoAddress text
    (without (kind_of url) h fits (by h shown secure) (subst IsHostName (sym text) named))
  where
    by : (h : Host (List ℕ)) → nonempty_host url ≡ Some h → IsSecure url
        → (kind_of url ≡ SpecialNotFile) ⊎ IsThisHost h
    by h shown (inl https) = inl (ap scheme_type https ∙ web_kind)
    by h shown (inr this) = inr (subst (λ o. IsSomeAnd o IsThisHost) shown this)

-- ---- two domains that cover one host

ends_nested : (x y a b : List ℕ) → x ++ 46 ∷ a ≡ y ++ 46 ∷ b → IsHostName a → IsHostName b → AreNested a b
ends_nested [] [] a b e named other = let same : a ≡ b = cc in inl (inl same)
ends_nested [] (c ∷ y) a b e named other = let tail : a ≡ y ++ 46 ∷ b = cc in inl (inr (named, (y, tail)))
ends_nested (c ∷ x) [] a b e named other = let tail : b ≡ x ++ 46 ∷ a = cc in inr (inr (other, (x, tail)))
ends_nested (c ∷ x) (d ∷ y) a b e named other =
    let tail : x ++ 46 ∷ a ≡ y ++ 46 ∷ b = cc in ends_nested x y a b tail named other

matched : (host : List ℕ) (d : Domain) → Covers d host → DomainMatches host (text_or_empty d)
matched host (host_only text) h = inl h
matched host (suffix text) h = h
matched host not_present h = absurd h
matched host empty h = absurd h

both_nested : (url : Parts) (host a b : List ℕ) → IsValid url → IsSecure url → host_of url ≡ Some host
    → DomainMatches host a → DomainMatches host b → AreNested a b
both_nested url host a b valid secure at (inl e) q = inl (subst (λ h. DomainMatches h b) e q)
both_nested url host a b valid secure at (inr p) (inl e) = inr (subst (λ h. DomainMatches h a) e (inr p))
both_nested url host a b valid secure at (inr (named, p)) (inr (again, q)) =
    let free = host_without url host valid secure at named in
    ends_nested p.0 q.0 a b (sym p.1 ∙ q.1) (free a p) (free b q)

some_and : {A : Type 0} (P : A → Type 0) (o : Option A) → IsSomeAnd o P → (x : A) × (o ≡ Some x) × P x
some_and P (Some x) h = (x, refl, h)
some_and P None h = absurd h

-- the texts of two domains that cover the host of a secure URL that was parsed
pub covers_nested : (url : Parts) (a b : Domain) → IsValid url → IsSecure url → CoversAt a url → CoversAt b url
    → AreNested (text_or_empty a) (text_or_empty b)
covers_nested url a b valid secure ca cb =
    let (host, at, here) = some_and (Covers a) (host_of url) ca in
    let there : Covers b host = subst (λ o. IsSomeAnd o (Covers b)) at cb in
    both_nested url host (text_or_empty a) (text_or_empty b) valid secure at (matched host a here)
    (matched host b there)
