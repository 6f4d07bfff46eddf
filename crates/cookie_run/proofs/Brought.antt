-- What the rows of a client bring to a site.
use Rattle.std.proofs.Common.{◌≡◌, ◌≢◌, ℕ, ℤ, ◌<◌, Bool, true, false, cond, List, All, [], ◌∷◌, ◌++◌, length, sym, refl}
use Rattle.std.proofs.Common.{ap, ◌∙◌, subst, ⊎_elim, arith, Option, Some}
use Rattle.std.specs.Prelude.{map, not, ◌&&◌}
use Rattle.std.specs.List.{filter, AllByRecursion}
use Rattle.std.specs.Str.{bytes_eq}
use Rattle.std.proofs.lemmas.Bool.{cases_Bool}
use Rattle.std.proofs.lemmas.List.Elements.{All-from_recursion}
use Rattle.cookie.specs.ByName.{HaveOwnNames as EntriesApart, value_in as entry_in}
use Rattle.cookie_text.specs.ReadingBack.{IsNamed, Pairwise, joined, pair_text as joined_pair}
use Rattle.url.specs.Parts.{Parts}
use Rattle.store_parts.specs.Expiry.{is_dead}
use Rattle.cookie_store.specs.Rows.{Row, is_live}
use Rattle.cookie_store.specs.Given.{pair_of}
use Rattle.cookie_run.specs.Brought.{Matches, HoldsPair, live_under, SplitsInto, BringsSite}
use Rattle.cookie_client.specs.Header.{IsHeader, header_of}
use Rattle.cookie_client.specs.Hosts.{secure_host}
use Rattle.cookie_run.specs.Laws.{RowsAreTheSites}
use Rattle.cookie_run.specs.Moments.{IsMoment}
use Rattle.cookie_run.specs.Site.{Site, live_at, live_view}
use Rattle.cookie_client.proofs.HeaderBack.{pair_at}
use Rattle.cookie_run.proofs.Kepts.{Kept, found_in, AreApart, all_filter, apart_filter}
use Rattle.cookie_client.proofs.RowLists.{all_longest}
use Rattle.cookie_run.proofs.Longest.{longest_own, own_short}
use Rattle.cookie_client.proofs.CountedRows.{is_own, rows_of}
use Rattle.cookie_run.proofs.OwnRows.{IsRowOf, IsGoodKept, Agrees, walk}
use Rattle.cookie_run.proofs.Received.{alive}
use Rattle.cookie_run.proofs.GivenRows.{lives, record_of, rooted, given_rows, all_rows, found_live, pairs_same}
use Rattle.cookie_run.proofs.GivenRows.{IsUncounted}
use Rattle.cookie_run.proofs.Walking.{value_of, matches_view}
use Rattle.cookie_run.proofs.Commands.{EndsLate}
use Rattle.cookie_run.proofs.Exchange.{Laws, SiteAgrees, agrees_later, IsReadBack}
use Rattle.cookie_run.proofs.Sites.{every, site_leads, reads_back}

-- ---- pairs

abbrev kept_pair : Kept → List ℕ × List ℕ
kept_pair k = (k.name, k.value)

abbrev pairs_of : List Kept → List (List ℕ × List ℕ)
pairs_of ks = map kept_pair ks

value_cond : (b : Bool) (k : Kept) (o : Option Kept) → cond b (Some k.value) (value_of o) ≡ value_of (cond b (Some k) o)
value_cond true k o = refl
value_cond false k o = refl

pairs_found : (ks : List Kept) (q : List ℕ) → entry_in (pairs_of ks) q ≡ value_of (found_in ks q)
pairs_found [] q = refl
pairs_found (k ∷ ks) q =
    ap (cond (bytes_eq q k.name) (Some k.value)) (pairs_found ks q) ∙ value_cond (bytes_eq q k.name) k (found_in ks q)

pairs_apart : (ks : List Kept) → AreApart ks → EntriesApart (pairs_of ks)
pairs_apart [] h = tt
pairs_apart (k ∷ ks) h = (pairs_found ks k.name ∙ ap value_of h.0, pairs_apart ks h.1)

-- ---- the live rows

holds : (host : List ℕ) (d : Kept) (r : Row) → IsRowOf host d r → HoldsPair host (kept_pair d) r
holds host d r h = record { domain = h.domain; path = h.path; name = h.name; value = h.value }

abbrev Held : List ℕ → ℤ → List Kept → List Row → Type 0
Held host now ks rows = Pairwise (HoldsPair host) (pairs_of (filter (lives now) ks)) (live_under host now rows)

held_own : (host : List ℕ) (now : ℤ) (d : Kept) (r : Row) (ds : List Kept) (rs : List Row) → is_own every host r ≡ true
    → IsRowOf host d r → Held host now ds rs → Held host now (d ∷ ds) (r ∷ rs)
held_own host now d r ds rs own h rest =
    ⊎_elim
    (λ (dead : is_dead now d.death ≡ true).
    let row : is_live now r ≡ false = ap (λ o. not (is_dead now o)) h.death ∙ ap not dead in
    subst (λ b. Pairwise (HoldsPair host) (pairs_of (cond (not b) (d ∷ filter (lives now) ds) (filter (lives now) ds)))
    (live_under host now (r ∷ rs))) (sym dead)
    (subst (λ b. Pairwise (HoldsPair host) (pairs_of (filter (lives now) ds))
    (cond (is_own every host r && b) (r ∷ live_under host now rs) (live_under host now rs))) (sym row)
    (subst (λ b. Pairwise (HoldsPair host) (pairs_of (filter (lives now) ds))
    (cond (b && false) (r ∷ live_under host now rs) (live_under host now rs))) (sym own) rest)))
    (λ (alive_here : is_dead now d.death ≡ false).
    let row : is_live now r ≡ true = ap (λ o. not (is_dead now o)) h.death ∙ ap not alive_here in
    subst (λ b. Pairwise (HoldsPair host) (pairs_of (cond (not b) (d ∷ filter (lives now) ds) (filter (lives now) ds)))
    (live_under host now (r ∷ rs))) (sym alive_here)
    (subst (λ b. Pairwise (HoldsPair host) (pairs_of (d ∷ filter (lives now) ds))
    (cond (is_own every host r && b) (r ∷ live_under host now rs) (live_under host now rs))) (sym row)
    (subst (λ b. Pairwise (HoldsPair host) (pairs_of (d ∷ filter (lives now) ds))
    (cond (b && true) (r ∷ live_under host now rs) (live_under host now rs))) (sym own) (holds host d r h, rest))))
    (cases_Bool (is_dead now d.death))

held_other : (host : List ℕ) (now : ℤ) (r : Row) (ds : List Kept) (rs : List Row) → is_own every host r ≡ false
    → Held host now ds rs → Held host now ds (r ∷ rs)
held_other host now r ds rs other rest =
    subst (λ b. Pairwise (HoldsPair host) (pairs_of (filter (lives now) ds))
    (cond (b && is_live now r) (r ∷ live_under host now rs) (live_under host now rs))) (sym other) rest

-- ---- the header

header_joined : (ks : List Kept) → header_of (map pair_at (map record_of ks)) ≡ joined (pairs_of ks)
header_joined [] = refl
header_joined (k ∷ []) = sym (append_nil (joined_pair k.name k.value))
  where
    append_nil : (xs : List ℕ) → xs ++ [] ≡ xs
    append_nil [] = refl
    append_nil (x ∷ xs) = ap (λ ys. x ∷ ys) (append_nil xs)
header_joined (k ∷ d ∷ ks) = ap (λ x. joined_pair k.name k.value ++ 59 ∷ 32 ∷ x) (header_joined (d ∷ ks))

named : (n : List ℕ) → n ≢ [] → 0 < length n
named [] h = absurd (h refl)
named (b ∷ bs) h = omega arith

all_named : (ks : List Kept) → AllByRecursion IsGoodKept ks → AllByRecursion (λ p. IsNamed p.0 p.1) (pairs_of ks)
all_named [] h = tt
all_named (k ∷ ks) h =
    (record { some = named k.name h.0.named; text = h.0.name; value_text = h.0.value }, all_named ks h.1)

-- what a header of escaped pairs splits into, as the crate of cookies promises it
abbrev pub SplittingBack : Type 0
SplittingBack = (pairs : List (List ℕ × List ℕ)) → All (λ p. IsNamed p.0 p.1) pairs → SplitsInto (joined pairs) pairs

split_pairs : (splits : SplittingBack) (host : List ℕ) (url : Parts) (now : ℤ) (rows : List Row) (ks : List Kept)
    (header : List ℕ) → secure_host url ≡ Some host → IsReadBack host → Agrees every host rows ks
    → IsHeader rows url now header → SplitsInto header (pairs_of (filter (lives now) ks))
split_pairs splits host url now rows ks header secure reads a is =
    let root_is = rooted url host secure is.valid in
    let live_ks : List Kept = filter (lives now) ks in
    let given = given_rows every host url now rows is.given ks secure root_is reads a is.are_given in
    let own : rows_of every host is.given ≡ is.given = all_rows every host is.given (λ name. refl) given.1 in
    let as_given : is.ordered ≡ is.given =
    sym (all_rows every host is.ordered (λ name. refl)
    (all_longest (IsUncounted every host) is.given is.ordered is.longest given.1))
    ∙ (longest_own every host is.given is.ordered is.longest (own_short every host live_ks is.given
    (all_filter IsGoodKept (lives now) ks a.good) given.0) ∙ own) in
    let all : Pairwise (IsRowOf host) live_ks is.given = subst (Pairwise (IsRowOf host) live_ks) own given.0 in
    let printed : header ≡ joined (pairs_of live_ks) =
    is.printed ∙ (ap (λ rows. header_of (map pair_of rows)) as_given
    ∙ (ap header_of (pairs_same host live_ks is.given all) ∙ header_joined live_ks)) in
    subst (λ h. SplitsInto h (pairs_of live_ks)) (sym printed)
    (splits (pairs_of live_ks) (All-from_recursion (λ p. IsNamed p.0 p.1) (pairs_of live_ks)
    (all_named live_ks (all_filter IsGoodKept (lives now) ks a.good))))

-- ---- the site

brings_site : (splits : SplittingBack) (key host : List ℕ) (rows : List Row) (now : ℤ) (site : Site) → IsReadBack host
    → SiteAgrees every key host rows now site → BringsSite key host rows now (live_view site now)
brings_site splits key host rows now site reads a =
    let ks = a.cookies in
    let live_ks : List Kept = filter (lives now) ks in
    record {
      pairs = pairs_of live_ks;
      are = record {
        once = pairs_apart live_ks (apart_filter (lives now) ks a.agrees.apart);
        each = λ q. subst (λ o. Matches key q o (live_view site now q))
            (sym (pairs_found live_ks q ∙ ap value_of (found_live now ks q a.agrees.apart)))
            (matches_view key q (alive now (found_in ks q)) (live_at now (site q)) (a.each q refl));
      };
      held = walk every host (Held host now) tt (λ d r ds rs own h good rest. held_own host now d r ds rs own h rest)
          (λ r ds rs other rest. held_other host now r ds rs other rest) rows ks a.agrees.good a.agrees.own;
      sent = λ url header secure is. split_pairs splits host url now rows ks header secure reads a.agrees is;
    }

pub sites_brought : (key : List ℕ) (laws : Laws key) (late : (n : ℤ) → IsMoment n → EndsLate n) → SplittingBack
    → RowsAreTheSites key
sites_brought key laws late splits b list acts told rows follows plays host site =
    let reads = reads_back host site.own_form site.no_empty_label in
    let led = site_leads b key laws late list host acts told rows site follows plays in (
      led.0,
      led.1,
      λ now after. brings_site splits key host rows now led.0 reads
          (agrees_later every key host rows _ now led.0 after led.2),
    )
