-- A request of the host is given its live rows, and its header brings what they hold.
use Rattle.std.proofs.Common.{◌≡◌, ℕ, ℤ, ◌<◌, Bool, true, false, cond, List, [], ◌∷◌, ◌++◌, length, sym, refl, ap, ◌∙◌}
use Rattle.std.proofs.Common.{subst, ⊎_elim, inl, inr, Option, Some, None, arith}
use Rattle.std.specs.Prelude.{map, option_map, codes, not, is_some, ◌&&◌, ◌==◌, IfSome, IsSomeAnd, slice_index}
use Rattle.std.specs.List.{filter, filter_map, cons_option, AllByRecursion}
use Rattle.std.specs.Option.{option_or}
use Rattle.std.specs.Str.{bytes_eq}
use Rattle.std.proofs.lemmas.Bool.{cases_Bool, cond-true, cond-false, both_ways}
use Rattle.percent_encoding.specs.Percent.{percent_decode}
use Rattle.url.specs.Parts.{Parts, IsValid, has_host, has_authority, cannot_be_a_base}
use Rattle.url.specs.Path.{join_segments}
use Rattle.url.specs.Scheme.{is_special, scheme_type, default_port}
use Rattle.url.specs.Host.{host_text}
use Rattle.cookie_text.specs.ReadingBack.{Pairwise}
use Rattle.cookie_text.specs.Record.{Record, bare}
use Rattle.store_parts.specs.DomainMatch.{suffix, Covers, CoversAt}
use Rattle.store_parts.specs.DomainText.{read_domain}
use Rattle.store_parts.specs.PathMatch.{PathMatchesAt}
use Rattle.cookie_client.specs.Hosts.{secure_host}
use Rattle.store_parts.specs.Schemes.{host_of}
use Rattle.cookie_client.specs.Jar.{last_in}
use Rattle.cookie_client.specs.Keeping.{HasReadPair, HaveReadPairs}
use Rattle.cookie_client.proofs.HeaderCookies.{cookie_by, cookies_by}
use Rattle.cookie_client.proofs.HeaderBack.{pair_at, IsRead, texts_of, header_back, cookie_named, passed_over}
use Rattle.cookie_client.proofs.ReadBack.{led}
use Rattle.cookie_run.proofs.ReadBack.{cookie_by_led}
use Rattle.cookie_client.proofs.SessionTexts.{or_none}
use Rattle.cookie_client.proofs.Texts.{same_text, other_text, some_is_not_none}
use Rattle.cookie_store.specs.Rows.{Row}
use Rattle.cookie_store.specs.Given.{IsGiven, AreGiven, pair_of}
use Rattle.store_parts.specs.Expiry.{is_dead}
use Rattle.cookie_client.specs.Header.{IsHeader, pair_text}
use Rattle.cookie_client.proofs.RowLists.{all_longest}
use Rattle.cookie_run.proofs.Longest.{longest_own, own_short}
use Rattle.cookie_run.proofs.Kepts.{Kept, found_in, AreApart, pass, found_filter, all_filter}
use Rattle.cookie_client.proofs.CountedRows.{Counts, is_counted, is_own, rows_of}
use Rattle.cookie_run.proofs.OwnRows.{own_text, IsRowOf, IsGoodKept, IsOther}
use Rattle.cookie_run.proofs.OwnRows.{Agrees, walk}
use Rattle.cookie_run.proofs.Received.{alive}
use Rattle.cookie_client.proofs.Lines.{https_of, is_http}
use Rattle.cookie_client.proofs.RowLists.{picked_all}

-- ---- the URL of a request

-- the path of a URL with a host begins at its root
pub record IsRooted (url : Parts) : Type 0 where
  pub based : cannot_be_a_base url ≡ false
  pub rest : List ℕ
  pub path : url.path ≡ codes "/" ++ rest

authority : (url : Parts) (host : List ℕ) → host_of url ≡ Some host → has_authority url ≡ true
authority url host e =
    ⊎_elim
    (λ (h : has_host url ≡ true). some_host host_text url.host (ap (λ b. option_map host_text (cond b url.host None))
    (sym h) ∙ e))
    (λ (h : has_host url ≡ false). absurd
    (some_is_not_none host (sym e ∙ ap (λ b. option_map host_text (cond b url.host None)) h)))
    (cases_Bool (has_host url))
  where
    some_host : {H : Type 0} (f : H → List ℕ) (o : Option H) → option_map f o ≡ Some host → is_some o ≡ true
    some_host f None g = absurd (some_is_not_none host (sym g))
    some_host f (Some h) g = refl

special : is_special (scheme_type (codes "https")) ≡ true
unfolding scheme_type default_port
special = refl

segments_rooted : (segments : List (List ℕ)) (path : List ℕ) → path ≡ join_segments segments → 0 < length path
    → (rest : List ℕ) × (path ≡ codes "/" ++ rest)
segments_rooted [] path e some = absurd (let none : length path ≡ 0 = ap length e in omega (arith, none, some))
segments_rooted (s ∷ ss) path e some = (s ++ join_segments ss, e)

pub rooted : (url : Parts) (host : List ℕ) → secure_host url ≡ Some host → IsValid url → IsRooted url
rooted url host secure valid =
    let https = https_of host url secure in
    let based : cannot_be_a_base url ≡ false = ap (λ b. not b && not (slice_index url.path 0 == 47))
    (authority url host https.1) in
    elim (valid.path) [
      | inl list ↦
          let r = segments_rooted list.0.segments url.path list.0.joined
          (list.1 (ap (λ s. is_special (scheme_type s)) https.0 ∙ special)) in
          record { based = based; rest = r.0; path = r.1 }
      | inr opaque ↦ absurd (both_ways _ based opaque.0)
    ]

-- ---- given

given_is : (host : List ℕ) (url : Parts) (now : ℤ) (k : Kept) (r : Row) → secure_host url ≡ Some host → IsRooted url
    → read_domain host ≡ Some (suffix host) → IsRowOf host k r → is_dead now k.death ≡ false → IsGiven r url now
given_is host url now k r secure root_is reads h live =
    let https = https_of host url secure in
    let covers : CoversAt r.domain url = subst (λ o. IsSomeAnd o (Covers r.domain)) (sym https.1)
    (subst (λ d. Covers d host) (sym h.domain) refl) in
    record {
      live = subst (λ o. is_dead now o ≡ false) (sym h.death) live;
      covered = subst (λ o. IsSomeAnd o (λ domain. CoversAt domain url))
          (sym (ap read_domain (own_text host k r h) ∙ reads)) (subst (λ o. IsSomeAnd o (Covers (suffix host)))
          (sym https.1) (inl refl));
      path = subst (λ p. 0 < length p.text) (sym h.path) (omega arith);
      goes = record {
        path = subst (λ p. PathMatchesAt p.text url) (sym h.path)
            (root_is.based, inr (record { rest = root_is.rest; split = root_is.path; at_slash = inl refl }));
        domain = covers;
        secure = λ e. inl https.0;
        http_only = λ e. is_http host url secure;
      };
    }

abbrev pub lives : ℤ → Kept → Bool
lives now k = not (is_dead now k.death)

-- its name doesn't count, where it isn't one of the host's
abbrev pub IsUncounted : Counts → List ℕ → Row → Type 0
IsUncounted counts host row = is_own counts host row ≡ false → is_counted counts row ≡ false

-- these rows of the host stand for what lives of this, and no other one's name counts
abbrev GivesLive : Counts → List ℕ → ℤ → List Kept → List Row → Type 0
GivesLive counts host now ks given =
    Pairwise (IsRowOf host) (filter (lives now) ks) (rows_of counts host given)
    × AllByRecursion (IsUncounted counts host) given

abbrev GivenAs : Counts → List ℕ → Parts → ℤ → List Kept → List Row → Type 0
GivenAs counts host url now ks rows = AllByRecursion (IsOther counts host) rows → (given : List Row)
    → AreGiven rows url now given → GivesLive counts host now ks given

given_own : (counts : Counts) (host : List ℕ) (url : Parts) (now : ℤ) (d : Kept) (r : Row) (ds : List Kept)
    (rs : List Row) → secure_host url ≡ Some host → IsRooted url → read_domain host ≡ Some (suffix host)
    → is_own counts host r ≡ true → IsRowOf host d r → GivenAs counts host url now ds rs
    → GivenAs counts host url now (d ∷ ds) (r ∷ rs)
given_own counts host url now d r ds rs secure root_is reads own h rest others given (later, picked, inl is) =
    let live : is_dead now d.death ≡ false = subst (λ o. is_dead now o ≡ false) h.death is.0.live in
    let tail = rest others.1 later picked in
    let row : rows_of counts host (r ∷ later) ≡ r ∷ rows_of counts host later = cond-true _ _ _ own in
    subst (λ b. GivesLive counts host now (d ∷ ds) b) (sym is.1) (
      subst (λ b. Pairwise (IsRowOf host) (cond (not b) (d ∷ filter (lives now) ds) (filter (lives now) ds))
          (rows_of counts host (r ∷ later))) (sym live)
          (subst (Pairwise (IsRowOf host) (d ∷ filter (lives now) ds)) (sym row) (h, tail.0)),
      ((λ other. absurd (both_ways _ other own)), tail.1),
    )
given_own counts host url now d r ds rs secure root_is reads own h rest others given (later, picked, inr isnt) =
    ⊎_elim
    (λ (dead : is_dead now d.death ≡ true).
    let tail = rest others.1 later picked in
    subst (λ b. GivesLive counts host now (d ∷ ds) b) (sym isnt.1) (
      subst (λ b. Pairwise (IsRowOf host) (cond (not b) (d ∷ filter (lives now) ds) (filter (lives now) ds))
          (rows_of counts host later)) (sym dead) tail.0,
      tail.1,
    ))
    (λ (live : is_dead now d.death ≡ false). absurd (isnt.0 (given_is host url now d r secure root_is reads h live)))
    (cases_Bool (is_dead now d.death))

given_other : (counts : Counts) (host : List ℕ) (url : Parts) (now : ℤ) (r : Row) (ds : List Kept) (rs : List Row)
    → secure_host url ≡ Some host → is_own counts host r ≡ false → GivenAs counts host url now ds rs
    → GivenAs counts host url now ds (r ∷ rs)
given_other counts host url now r ds rs secure other rest others given (later, picked, inl is) =
    let tail = rest others.1 later picked in
    let row : rows_of counts host (r ∷ later) ≡ rows_of counts host later = cond-false _ _ _ other in
    subst (λ b. GivesLive counts host now ds b) (sym is.1) (
      subst (Pairwise (IsRowOf host) (filter (lives now) ds)) (sym row) tail.0,
      ((λ away. uncounted), tail.1),
    )
  where
    uncounted : is_counted counts r ≡ false
    uncounted =
        ⊎_elim
        (λ (c : is_counted counts r ≡ true). absurd (others.0 other c
        (subst (λ o. IsSomeAnd o (Covers r.domain)) (https_of host url secure).1 is.0.goes.domain)))
        (λ (c : is_counted counts r ≡ false). c)
        (cases_Bool (is_counted counts r))
given_other counts host url now r ds rs secure other rest others given (later, picked, inr isnt) =
    subst (λ b. GivesLive counts host now ds b) (sym isnt.1) (rest others.1 later picked)

pub given_rows : (counts : Counts) (host : List ℕ) (url : Parts) (now : ℤ) (rows given : List Row) (ks : List Kept)
    → secure_host url ≡ Some host → IsRooted url → read_domain host ≡ Some (suffix host)
    → Agrees counts host rows ks → AreGiven rows url now given → GivesLive counts host now ks given
given_rows counts host url now rows given ks secure root_is reads a picked =
    walk counts host (GivenAs counts host url now)
    (λ others given is. subst (λ b. GivesLive counts host now [] b) (sym is) (tt, tt))
    (λ d r ds rs own h hd rest. given_own counts host url now d r ds rs secure root_is reads own h rest)
    (λ r ds rs other rest. given_other counts host url now r ds rs secure other rest)
    rows ks a.good a.own a.others given picked

-- where all names count, these are all
pub all_rows : (counts : Counts) (host : List ℕ) (given : List Row) → ((name : List ℕ) → counts name ≡ true)
    → AllByRecursion (IsUncounted counts host) given → rows_of counts host given ≡ given
all_rows counts host [] all h = refl
all_rows counts host (r ∷ rs) all h =
    ⊎_elim
    (λ (own : is_own counts host r ≡ true). cond-true _ _ _ own ∙ ap (λ x. r ∷ x) (all_rows counts host rs all h.1))
    (λ (other : is_own counts host r ≡ false). absurd
    (both_ways _ (h.0 other) (all (percent_decode r.raw.cookie.name))))
    (cases_Bool (is_own counts host r))

-- ---- the header

abbrev pub record_of : Kept → Record
record_of k = bare k.name k.value

pub pairs_same : (host : List ℕ) (ks : List Kept) (given : List Row) → Pairwise (IsRowOf host) ks given
    → map pair_of given ≡ map pair_at (map record_of ks)
pairs_same host [] [] p = refl
pairs_same host [] (r ∷ rs) p = absurd p
pairs_same host (k ∷ ks) [] p = absurd p
pairs_same host (k ∷ ks) (r ∷ rs) p = λ i. (p.0.name i, p.0.value i) ∷ pairs_same host ks rs p.1 i

-- the last cookie of a name that counts is that of the last row of the host
abbrev LastAs : Bool → Counts → List ℕ → List ℕ → List Kept → List Row → Type 0
LastAs b counts host q ks rows = HaveReadPairs rows → AllByRecursion (IsUncounted counts host) rows → (spaced : Bool)
    → last_in (filter_map (cookie_by b) (texts_of spaced (map pair_of rows))) q ≡ last_in (map record_of ks) q

last_own : (b : Bool) (counts : Counts) (host q : List ℕ) (d : Kept) (r : Row) (ds : List Kept) (rs : List Row)
    → IsRowOf host d r → IsGoodKept d → LastAs b counts host q ds rs → LastAs b counts host q (d ∷ ds) (r ∷ rs)
last_own b counts host q d r ds rs h good rest pairs others spaced =
    let tail : List Record = filter_map (cookie_by b) (texts_of true (map pair_of rs)) in
    let same : pair_of r ≡ pair_at (record_of d) = λ i. (h.name i, h.value i) in
    let one : cookie_by b (led spaced (pair_text (pair_of r))) ≡ Some (record_of d) =
    ap (λ p. cookie_by b (led spaced (pair_text p))) same ∙ cookie_by_led b spaced (record_of d) good in
    ap (λ o. last_in (cons_option o tail) q) one
    ∙ ap (λ x. option_or x (cond (bytes_eq q d.name) (Some (record_of d)) None)) (rest pairs.1 others.1 true)

last_other : (b : Bool) (counts : Counts) (host q : List ℕ) (r : Row) (ds : List Kept) (rs : List Row) → counts q ≡ true
    → is_own counts host r ≡ false → LastAs b counts host q ds rs → LastAs b counts host q ds (r ∷ rs)
last_other b counts host q r ds rs c other rest pairs others spaced =
    passed_over q (cookie_by b (led spaced (pair_text (pair_of r)))) _
    (differs _ (cookie_named b spaced (pair_of r) pairs.0)) ∙ rest pairs.1 others.1 true
  where
    away : (n : List ℕ) → n ≡ percent_decode r.raw.cookie.name → bytes_eq q n ≡ false
    away n is = other_text q n (λ same. both_ways _ (others.0 other) (ap counts (sym is ∙ sym same) ∙ c))

    differs : (o : Option Record) → IfSome o (λ x. x.name ≡ percent_decode r.raw.cookie.name)
        → IfSome o (λ x. bytes_eq q x.name ≡ false)
    differs None h = tt
    differs (Some x) h = away x.name h

pub header_last : (b : Bool) (counts : Counts) (host : List ℕ) (url : Parts) (now : ℤ) (rows : List Row)
    (ks : List Kept)
    (header : List ℕ) → secure_host url ≡ Some host → read_domain host ≡ Some (suffix host) → HaveReadPairs rows
    → Agrees counts host rows ks → IsHeader rows url now header → (q : List ℕ) → counts q ≡ true
    → last_in (cookies_by b header) q ≡ last_in (map record_of (filter (lives now) ks)) q
header_last b counts host url now rows ks header secure reads pairs a is q c =
    let given = given_rows counts host url now rows is.given ks secure (rooted url host secure is.valid) reads a
    is.are_given in
    let live = all_filter IsGoodKept (lives now) ks a.good in
    let own : Pairwise (IsRowOf host) (filter (lives now) ks) (rows_of counts host is.ordered) =
    subst (Pairwise (IsRowOf host) (filter (lives now) ks))
    (sym (longest_own counts host is.given is.ordered is.longest
    (own_short counts host (filter (lives now) ks) is.given live given.0))) given.0 in
    let own_pairs : HaveReadPairs is.ordered = all_longest HasReadPair is.given is.ordered is.longest
    (picked_all HasReadPair _ rows is.given pairs is.are_given) in
    ap (λ h. last_in (cookies_by b h) q) is.printed
    ∙ (ap (λ cs. last_in cs q) (header_back b (map pair_of is.ordered) (readable is.ordered own_pairs))
    ∙ walk counts host (LastAs b counts host q) (λ _ _ _. refl)
    (λ d r ds rs own h good rest. last_own b counts host q d r ds rs h good rest)
    (λ r ds rs other rest. last_other b counts host q r ds rs c other rest)
    is.ordered (filter (lives now) ks) live own own_pairs
    (all_longest (IsUncounted counts host) is.given is.ordered is.longest given.1) false)
  where
    readable : (rows : List Row) → HaveReadPairs rows → AllByRecursion IsRead (map pair_of rows)
    readable [] h = tt
    readable (r ∷ rs) h = (h.0, readable rs h.1)

-- where names are apart, the last cookie of a name is the first
pub last_kept : (ks : List Kept) (q : List ℕ) → AreApart ks → last_in (map record_of ks) q ≡ option_map record_of
    (found_in ks q)
last_kept [] q apart = refl
last_kept (k ∷ ks) q apart =
    ⊎_elim
    (λ (e : bytes_eq q k.name ≡ true).
    let none : last_in (map record_of ks) q ≡ None = last_kept ks q apart.1 ∙ ap (option_map record_of)
    (ap (found_in ks) (same_text q k.name e) ∙ apart.0) in
    ap (λ o. option_or o (cond (bytes_eq q k.name) (Some (record_of k)) None)) none
    ∙ (cond-true _ _ _ e ∙ ap (option_map record_of) (sym (cond-true (bytes_eq q k.name) (Some k) (found_in ks q) e))))
    (λ (e : bytes_eq q k.name ≡ false).
    ap (option_or (last_in (map record_of ks) q)) (cond-false (bytes_eq q k.name) (Some (record_of k)) None e)
    ∙ (or_none (last_in (map record_of ks) q)
    ∙ (last_kept ks q apart.1 ∙ ap (option_map record_of)
    (sym (cond-false (bytes_eq q k.name) (Some k) (found_in ks q) e)))))
    (cases_Bool (bytes_eq q k.name))

pub found_live : (now : ℤ) (ks : List Kept) (q : List ℕ) → AreApart ks → found_in (filter (lives now) ks) q ≡ alive now
    (found_in ks q)
found_live now ks q apart = found_filter (lives now) ks q apart ∙ pass_alive (found_in ks q)
  where
    turn : (b : Bool) (k : Kept) → cond (not b) (Some k) None ≡ cond b None (Some k)
    turn true k = refl
    turn false k = refl

    pass_alive : (o : Option Kept) → pass (lives now) o ≡ alive now o
    pass_alive None = refl
    pass_alive (Some k) = turn (is_dead now k.death) k
