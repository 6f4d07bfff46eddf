-- What RFC 3986 reads in a URL's own text.
use Rattle.std.proofs.Common.{◌≡◌, ◌+◌, ◌<◌, ◌≤◌, ◌∙◌, ◌⊎◌, ◌++◌, ◌∷◌, ℕ, zero, suc, true, false, List, [], All, ap}
use Rattle.std.proofs.Common.{append-nil, append_assoc, arith, drop, drop_at, get_or}
use Rattle.std.proofs.Common.{inl, inr, length, length-append, map, refl}
use Rattle.std.proofs.Common.{subst, sym, take, take-append-drop, take_at, ⊎_elim}
use Rattle.std.specs.Prelude.{codes, nat_lt}
use Rattle.std.specs.Char.{to_ascii_lowercase}
use Rattle.std.specs.List.{concat, prefix_len}
use Rattle.std.proofs.lemmas.Bool.{cases_Bool}
use Rattle.std.proofs.lemmas.Bool.Decides.{nat_tests}
use Rattle.std.proofs.lemmas.List.{drop-map, length-map, map-append, take-append-le, take-map}
use Rattle.std.proofs.lemmas.List.Elements.{All-weaker}
use Rattle.url.specs.Parts.{IsValid, Parts, has_authority, kind_of, pieces, text_between}
use Rattle.url.specs.Scheme.{default_port, is_special, scheme_type}
use Rattle.url.specs.declared.scheme.SchemeType.TheVariants.{SpecialNotFile}
use Rattle.url.specs.declared.slicing.Position.TheVariants.{AfterPort, BeforeUsername}
use Rattle.url.proofs.InputLemmas.{Passes, StopsAt, prefix_len_at}
use Rattle.url.proofs.PathLemmas.{rooted}
use Rattle.url.proofs.TextLemmas.{authority_bytes, is_authority_byte}
use Rattle.url.proofs.ValidLemmas.{base_from_authority, hierarchical, special_has_authority}
use Rattle.plain_url.specs.Authority.{authority_of, is_in_authority}
use Rattle.plain_url.specs.Laws.{IsReadAlike, authority_at, host_and_port}
use Rattle.plain_url.specs.Plain.{IsOwnText, IsTargetOf, SameInAnyCase, site, target}

-- ---- texts

same_length : (a b : List ℕ) → SameInAnyCase a b → length a ≡ length b
same_length a b same =
    sym (length-map a to_ascii_lowercase) ∙ (ap length same ∙ length-map b to_ascii_lowercase)

abbrev Stays : ℕ → Type 0
Stays b = is_in_authority (to_ascii_lowercase b) ≡ is_in_authority b

first : (b : ℕ) → nat_lt b 65 ≡ true → Stays b
first b less = rw less refl

letter : (b : ℕ) → nat_lt b 65 ≡ false → nat_lt b 91 ≡ true → Stays b
letter b more less = rw (more, less) (grind (arith, nat_tests))

above : (b : ℕ) → nat_lt b 65 ≡ false → nat_lt b 91 ≡ false → Stays b
above b more most = rw (more, most) refl

-- no letter ends an authority, in whatever case
in_any_case : (b : ℕ) → Stays b
in_any_case b =
    ⊎_elim (first b) (λ more. ⊎_elim (letter b more) (above b more) (cases_Bool (nat_lt b 91)))
    (cases_Bool (nat_lt b 65))

lower_front : (xs : List ℕ) → prefix_len is_in_authority (map to_ascii_lowercase xs) ≡ prefix_len is_in_authority xs
lower_front [] = refl
lower_front (x ∷ xs) = rw (in_any_case x) (rw (lower_front xs) refl)

-- an authority in another case ends where it does
same_front : (f a rest : List ℕ) → SameInAnyCase f a → All (Passes is_in_authority) a → StopsAt is_in_authority rest
    → authority_of (f ++ rest) ≡ f
same_front f a rest same whole stops =
    let lower = map to_ascii_lowercase in
    let texts : lower (f ++ rest) ≡ lower (a ++ rest) =
    map-append to_ascii_lowercase f rest ∙ (ap (λ t. t ++ lower rest) same
    ∙ sym (map-append to_ascii_lowercase a rest)) in
    let len : prefix_len is_in_authority (f ++ rest) ≡ length f =
    sym (lower_front (f ++ rest)) ∙ (ap (prefix_len is_in_authority) texts ∙ (lower_front (a ++ rest)
    ∙ (prefix_len_at is_in_authority a rest whole stops ∙ sym (same_length f a same)))) in
    ap (λ n. take n (f ++ rest)) len ∙ take_at f rest _ refl

drop_in : (n : ℕ) (xs ys : List ℕ) → n ≤ length xs → drop n (xs ++ ys) ≡ drop n xs ++ ys
drop_in zero xs ys le = refl
drop_in (suc n) [] ys le = absurd (omega (arith, le))
drop_in (suc n) (x ∷ xs) ys le = drop_in n xs ys (omega (arith, le))

-- what stands in a text behind a front that is a scheme and an authority, in whatever case
record Parted (text s a rest : List ℕ) : Type 0 where
  before : SameInAnyCase (take (length s) text) s
  whole : SameInAnyCase (authority_of (drop (length s) text)) a
  behind : drop (length s + length (authority_of (drop (length s) text))) text ≡ rest

parted : (text s a front rest : List ℕ) → text ≡ front ++ rest → SameInAnyCase front (s ++ a)
    → All (Passes is_in_authority) a → StopsAt is_in_authority rest → Parted text s a rest
parted text s a front rest split same whole stops =
    let lower = map to_ascii_lowercase in
    let n = length s in
    let f = drop n front in
    let len : length front ≡ n + length a = same_length front (s ++ a) same ∙ length-append s a in
    let le : n ≤ length front = omega (arith, len) in
    let head : SameInAnyCase (take n front) s =
    sym (take-map to_ascii_lowercase n front) ∙ (ap (take n) same ∙ (take-map to_ascii_lowercase n (s ++ a)
    ∙ ap lower (take_at s a n refl))) in
    let tail : SameInAnyCase f a =
    sym (drop-map to_ascii_lowercase n front) ∙ (ap (drop n) same ∙ (drop-map to_ascii_lowercase n (s ++ a)
    ∙ ap lower (drop_at s a n refl))) in
    let rests : drop n text ≡ f ++ rest = ap (drop n) split ∙ drop_in n front rest le in
    let found : authority_of (drop n text) ≡ f = ap authority_of rests ∙ same_front f a rest tail whole stops in
    let all : length front ≡ n + length (authority_of (drop n text)) =
    len ∙ ap (λ m. n + m) (sym (same_length f a tail) ∙ ap length (sym found)) in
    record {
      before = ap lower (ap (take n) split ∙ take-append-le n front rest le) ∙ head;
      whole = ap lower found ∙ tail;
      behind = ap (drop (n + length (authority_of (drop n text)))) split ∙ drop_at front rest _ all;
    }

-- ---- URLs

pub web_is_special : (scheme : List ℕ) → (scheme ≡ codes "http") ⊎ (scheme ≡ codes "https")
    → scheme_type scheme ≡ SpecialNotFile
unfolding scheme_type default_port
web_is_special scheme (inl plain) = ap scheme_type plain
web_is_special scheme (inr safe) = ap scheme_type safe

stops : (path rest : List ℕ) → 0 < length path → (path ≡ []) ⊎ (get_or path 0 0 ≡ 47)
    → StopsAt is_in_authority (path ++ rest)
stops [] rest room first = absurd (omega arith)
stops (b ∷ path) rest room first =
    ⊎_elim (λ empty. absurd (let none = ap length empty in omega arith)) (λ slash. rw slash) first

target_stops : (url : Parts) → IsValid url → is_special (kind_of url) ≡ true → StopsAt is_in_authority (target url)
target_stops url valid special =
    let path = hierarchical url valid.path (base_from_authority url (special_has_authority url valid.head special)) in
    stops url.path (concat (drop 11 (pieces url))) (path.1 special) (rooted (kind_of url) url.path path.0)

rest_stops : (text : List ℕ) (url : Parts) → IsTargetOf text url → StopsAt is_in_authority (target url)
    → StopsAt is_in_authority text
rest_stops text url (inl same) stops = subst (StopsAt is_in_authority) (sym same) stops
rest_stops text url (inr none) stops = subst (StopsAt is_in_authority) (sym none.0) tt

authority_passes : (url : Parts) → IsValid url → url.username ≡ [] → url.password ≡ []
    → All (Passes is_in_authority) (host_and_port url)
authority_passes url valid user password =
    let text = host_and_port url in
    let between : text_between url BeforeUsername AfterPort ≡ text = rw (user, password) (simp append-nil) in
    let bytes : All (Passes is_authority_byte) text =
    subst (All (Passes is_authority_byte)) between (authority_bytes url valid.head) in
    All-weaker (Passes is_authority_byte) (Passes is_in_authority) (λ b passes. grind (arith, nat_tests)) text bytes

site_is : (url : Parts) → has_authority url ≡ true → url.username ≡ [] → url.password ≡ []
    → site url ≡ (url.scheme ++ codes "://") ++ host_and_port url
site_is url authority user password = rw (authority, user, password) (simp (append_assoc, append-nil))

pub own_is_read : (text : List ℕ) (url : Parts) → IsValid url → IsOwnText text url → IsReadAlike text url
own_is_read text url valid own =
    let special : is_special (kind_of url) ≡ true = ap is_special (web_is_special url.scheme own.web.0) in
    let authority = special_has_authority url valid.head special in
    let s = url.scheme ++ codes "://" in
    let n = length (site url) in
    let spelled = site_is url authority own.user.0 own.user.1 in
    let p = parted text s (host_and_port url) (take n text) (drop n text) (sym (take-append-drop n text))
    (subst (SameInAnyCase (take n text)) spelled own.same_site)
    (authority_passes url valid own.user.0 own.user.1)
    (rest_stops (drop n text) url own.same_target (target_stops url valid special)) in
    let at : length s ≡ authority_at url = length-append url.scheme (codes "://") in
    record {
      scheme = subst (λ m. SameInAnyCase (take m text) s) at p.before;
      authority = subst (λ m. SameInAnyCase (authority_of (drop m text)) (host_and_port url)) at p.whole;
      target = subst (λ m. IsTargetOf (drop (m + length (authority_of (drop m text))) text) url) at
          (subst (λ t. IsTargetOf t url) (sym p.behind) own.same_target);
    }
