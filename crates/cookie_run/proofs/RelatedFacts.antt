-- Which hosts are related, and which steps concern a host, at small values.
use Rattle.std.proofs.Common.{◌≡◌, ◌≢◌, ℕ, ℤ, List, [], ◌∷◌, ◌++◌, Some, None, codes, sym, refl, ap, ◌∙◌, inl}
use Rattle.std.proofs.Common.{◌⊎◌, ⊎_elim, inr, arith, append-nil, get_or, lit≤}
use Rattle.std.proofs.lemmas.Option.{none-some}
use Rattle.std.proofs.NetLemmas.Ipv4.{read_ipv4_complete}
use Rattle.std.proofs.NetLemmas.Ipv6.{read_ipv6_complete, EndsGroups-nil}
use Rattle.std.specs.Prelude.{Contains}
use Rattle.std.specs.Fmt.{digits}
use Rattle.std.specs.Net.Reader.{read_number, read_octet, read_ipv4, read_segment, read_segments, read_ipv6}
use Rattle.publicsuffix.specs.Prevailing.{Listed, covered}
use Rattle.publicsuffix.specs.Rules.{Rule}
use Rattle.store_parts.specs.DomainMatch.{EndsAfterDot, IsHostName, IsIpv4}
use Rattle.url.specs.Parts.{Parts}
use Rattle.url.specs.declared.host.Host.TheVariants.{Domain}
use Rattle.cookie_client.specs.Steps.{Act, Visits, Answers, Asks, Restarts, Arrival}
use Rattle.cookie_client.specs.Hosts.{IsInReach}
use Rattle.cookie_run.specs.Headline.{AreRelated}
use Rattle.cookie_run.specs.Strangers.{Concerns, IsOnly}
use Rattle.cookie_client.specs.declared.command.Command.{Command}
use Rattle.cookie_run.proofs.Example.{shop, evil, list, apart, apart_unrelated, only}
use Rattle.cookie_run.proofs.Example.{step, no_dot, none_after, after_dot}

-- ---- host names

-- a text that std's readers of addresses refuse is a host name
named : (text : List ℕ) → read_ipv4 text ≡ None → read_ipv6 text ≡ None → IsHostName text
named text four six = record {
  no_ipv4 = λ h. none-some _ (sym (four_more h.0) ∙ read_ipv4_complete text h.0 [] h.1 (lit≤ tt));
  no_ipv6 = λ h. none-some _ (sym (six_more h.0) ∙ read_ipv6_complete text h.0 [] h.1 EndsGroups-nil);
}
  where
    four_more : (octets : List ℕ) → read_ipv4 (text ++ []) ≡ None
    four_more octets = ap read_ipv4 (append-nil text) ∙ four

    six_more : (segments : List ℕ) → read_ipv6 (text ++ []) ≡ None
    six_more segments = ap read_ipv6 (append-nil text) ∙ six

abbrev pub below : List ℕ
below = codes "sub.shop.com"

below_named : IsHostName below
unfolding read_number read_octet read_ipv4 read_segment read_segments read_ipv6
below_named = named below refl refl

shop_named : IsHostName shop
unfolding read_number read_octet read_ipv4 read_segment read_segments read_ipv6
shop_named = named shop refl refl

evil_named : IsHostName evil
unfolding read_number read_octet read_ipv4 read_segment read_segments read_ipv6
evil_named = named evil refl refl

-- ---- a reach

-- in the reach of `sub.shop.com` are itself, `shop.com` and `com`
pub shop_reached : IsInReach below shop
shop_reached = inr (below_named, (codes "sub", refl))

pub com_reached : IsInReach below (codes "com")
com_reached = inr (below_named, (codes "sub.shop", refl))

-- and nothing else
pub below_reach : (text : List ℕ) → IsInReach below text → (below ≡ text) ⊎ ((text ≡ shop) ⊎ (text ≡ codes "com"))
below_reach text (inl same) = inl same
below_reach text (inr reached) =
    let dotted = no_dot 98 (codes ".shop.com") text (λ e. omega (arith, e))
    (no_dot 117 (codes "b.shop.com") text (λ e. omega (arith, e))
    (no_dot 115 (codes "ub.shop.com") text (λ e. omega (arith, e)) reached.1)) in
    inr (⊎_elim (λ here. inl here.1) (λ later. inr (after_dot text later)) (step 46 shop text dotted))

-- ---- a host and its parent

-- a rule of the list `com` covers one label
one_label : (rule : Rule) → Contains list rule → covered rule ≡ 1
one_label rule here = ap covered (sym (only rule here.0 here.1 here.2))

pub shop_unlisted : ¬ (Listed list shop)
shop_unlisted h = omega (arith, one_label h.rule h.prevails.of_list, h.whole)

-- `sub.shop.com` and `shop.com` are related, by `shop.com`, where that isn't listed
pub parent_related : (rules : List Rule) → ¬ (Listed rules shop) → AreRelated rules below shop
parent_related rules free = inr (shop, (λ e. let wrong : shop ≡ [] = e in cc), shop_reached, inl refl, free)

-- ---- two hosts under one suffix

-- where it is listed they aren't related
pub listed_unrelated : ¬ (AreRelated list shop evil)
listed_unrelated = apart_unrelated list shop evil apart (λ e. let wrong : 115 ≡ 101 =
    ap (λ xs. get_or xs 0 0) e in omega (arith, wrong))

-- without a list they are
none_listed : (text : List ℕ) → ¬ (Listed [] text)
none_listed text h = omega (arith, h.prevails.of_list.1)

pub unlisted_related : AreRelated [] shop evil
unlisted_related = inr (
  codes "com",
  (λ e. let wrong : codes "com" ≡ [] = e in cc),
  inr (shop_named, (codes "shop", refl)),
  inr (evil_named, (codes "evil", refl)),
  none_listed (codes "com"),
)

-- ---- addresses

abbrev address : List ℕ
address = codes "1.2.3.4"

address_is : IsIpv4 address
unfolding digits
address_is = (
  1 ∷ 2 ∷ 3 ∷ 4 ∷ [],
  record {
    a = 1;
    b = 2;
    c = 3;
    d = 4;
    fit = (omega arith, omega arith, omega arith, omega arith);
    value = refl;
    spelled = refl;
  },
)

-- nothing but itself is in its reach
pub address_reach : (text : List ℕ) → IsInReach address text → address ≡ text
address_reach text (inl same) = same
address_reach text (inr below) = absurd (below.0.no_ipv4 address_is)

-- so another address is related to it by no list
pub addresses_unrelated : (rules : List Rule) (other : List ℕ) → IsIpv4 other → address ≢ other
    → ¬ (AreRelated rules address other)
addresses_unrelated rules other is differ (inl same) = differ same
addresses_unrelated rules other is differ (inr (text, some, mine, inl same, free)) =
    differ (address_reach text mine ∙ sym same)
addresses_unrelated rules other is differ (inr (text, some, mine, inr below, free)) = below.0.no_ipv4 is

-- a name that ends with a dot and the address is
abbrev named_address : List ℕ
named_address = codes "a.1.2.3.4"

named_address_named : IsHostName named_address
unfolding read_number read_octet read_ipv4 read_segment read_segments read_ipv6
named_address_named = named named_address refl refl

pub named_address_related : (rules : List Rule) → ¬ (Listed rules address) → AreRelated rules named_address address
named_address_related rules free = inr (
  address,
  (λ e. let wrong : address ≡ [] = e in cc),
  inr (named_address_named, (codes "a", refl)),
  inl refl,
  free,
)

-- an IPv6 address between brackets, as a URL writes it: the last group is one digit
abbrev bracketed : ℕ → List ℕ
bracketed digit = codes "[::" ++ digit ∷ codes "]"

-- no text stands behind a dot of it
bracketed_dotless : (digit : ℕ) (text : List ℕ) → digit ≢ 46 → ¬ (EndsAfterDot (bracketed digit) text)
bracketed_dotless digit text other h =
    none_after text (no_dot 93 [] text (λ e. omega (arith, e))
    (no_dot digit (codes "]") text other
    (no_dot 58 (digit ∷ codes "]") text (λ e. omega (arith, e))
    (no_dot 58 (codes ":" ++ digit ∷ codes "]") text (λ e. omega (arith, e))
    (no_dot 91 (codes "::" ++ digit ∷ codes "]") text (λ e. omega (arith, e)) h)))))

-- so nothing but itself is in the reach of `[::1]`
pub bracketed_reach : (text : List ℕ) → IsInReach (bracketed 49) text → bracketed 49 ≡ text
bracketed_reach text (inl same) = same
bracketed_reach text (inr below) = absurd (bracketed_dotless 49 text (λ e. omega (arith, e)) below.1)

-- and `[::2]` is related to it by no list
pub bracketed_unrelated : (rules : List Rule) → ¬ (AreRelated rules (bracketed 49) (bracketed 50))
bracketed_unrelated rules (inl same) = let wrong : 49 ≡ 50 = ap (λ xs. get_or xs 3 0) same in omega (arith, wrong)
bracketed_unrelated rules (inr (text, some, mine, inl same, free)) =
    let wrong : 49 ≡ 50 = ap (λ xs. get_or xs 3 0) (bracketed_reach text mine ∙ sym same) in omega (arith, wrong)
bracketed_unrelated rules (inr (text, some, mine, inr below, free)) =
    bracketed_dotless 50 text (λ e. omega (arith, e)) below.1

-- ---- the steps that concern `shop.com`, where `com` is listed

-- `https://HOST/`
abbrev pub at_host : List ℕ → Parts
at_host host = record {
  scheme = codes "https";
  username = [];
  password = [];
  host = Some (Domain host);
  port = None;
  path = codes "/";
  query = None;
  fragment = None;
}

below_concerns : AreRelated list shop below
below_concerns =
    inr (shop, (λ e. let wrong : shop ≡ [] = e in cc), inl refl, shop_reached, shop_unlisted)

-- those with itself and with `sub.shop.com`
pub own_visit : (at : ℤ) (commands : List Command) (arrival : Arrival)
    → Concerns list shop (Visits (at_host shop) at commands arrival)
own_visit at commands arrival = inl refl

pub answer_from_below : (lines : List (List ℕ)) (at : ℤ) → Concerns list shop (Answers (at_host below) lines at)
answer_from_below lines at = below_concerns

-- not those with `evil.com`
pub answer_from_elsewhere : (lines : List (List ℕ)) (at : ℤ) → ¬ (Concerns list shop (Answers (at_host evil) lines at))
answer_from_elsewhere lines at h = listed_unrelated h

pub visit_elsewhere : (at : ℤ) (commands : List Command) (arrival : Arrival)
    → ¬ (Concerns list shop (Visits (at_host evil) at commands arrival))
visit_elsewhere at commands arrival h = listed_unrelated h

-- without a host, none
pub answer_from_nowhere : (lines : List (List ℕ)) (at : ℤ)
    → ¬ (Concerns list shop (Answers (record (at_host shop) { host = None }) lines at))
answer_from_nowhere lines at h = h

-- of these five, four are left
pub four_are_left : (lines : List (List ℕ)) (at : ℤ) (commands : List Command) (arrival : Arrival)
    → IsOnly list shop
    (Visits (at_host shop) at commands arrival ∷ Answers (at_host evil) lines at
    ∷ Answers (at_host below) lines at ∷ Asks (at_host evil) at ∷ Restarts at ∷ [])
    (Visits (at_host shop) at commands arrival
    ∷ Answers (at_host below) lines at ∷ Asks (at_host evil) at ∷ Restarts at ∷ [])
four_are_left lines at commands arrival = (
  Answers (at_host below) lines at ∷ Asks (at_host evil) at ∷ Restarts at ∷ [],
  (
    Answers (at_host below) lines at ∷ Asks (at_host evil) at ∷ Restarts at ∷ [],
    (
      Asks (at_host evil) at ∷ Restarts at ∷ [],
      (Restarts at ∷ [], ([], refl, inl (tt, refl)), inl (tt, refl)),
      inl (answer_from_below lines at, refl),
    ),
    inr (answer_from_elsewhere lines at, refl),
  ),
  inl (own_visit at commands arrival, refl),
)
