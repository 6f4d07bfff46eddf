-- What a line makes, and what a row is read back as, is one.
use Rattle.std.proofs.Common.{◌≡◌, ◌≤ℤ◌, ℕ, ℤ, List, [], ◌∷◌, sym, ap, ◌∙◌, subst, Option, Some, None, Result, Ok}
use Rattle.std.proofs.Common.{arith, refl}
use Rattle.std.specs.Prelude.{IsSomeAnd}
use Rattle.jiff.proofs.SpanFacts.{signed_arith}
use Rattle.cookie_text.specs.Printing.{printed}
use Rattle.cookie_text.specs.Reading.{ReadsPlain}
use Rattle.cookie_text.specs.ReadingBack.{Pairwise}
use Rattle.cookie_text.specs.Record.{Seen, unsliced}
use Rattle.cookie_text.specs.declared.error.ParseError.{ParseError}
use Rattle.store_parts.specs.DomainMatch.{Domain, host_only, suffix, not_present, empty}
use Rattle.url.specs.Parts.{Parts}
use Rattle.cookie_store.specs.Making.{IsMade, IsDomainFor, asked_domain}
use Rattle.cookie_store.specs.Placing.{saved}
use Rattle.cookie_store.specs.Rows.{Row, live}
use Rattle.cookie_store.specs.SavedRows.{IsReread, IsWholeDeath}
use Rattle.cookie_client.specs.Once.{LinesMakeOneRow, KeptOnce}
use Rattle.cookie_client.proofs.Lines.{some_domain}

-- a law of the crate below: a text reads as one outcome
abbrev pub ReadsOnce : Type 0
ReadsOnce = (text : List ℕ) (o p : Result Seen ParseError) → ReadsPlain text o → ReadsPlain text p → o ≡ p

seen_of : (s t : Seen) (o p : Result Seen ParseError) → o ≡ Ok s → p ≡ Ok t → o ≡ p → s ≡ t
seen_of s t o p is so e = cc

pub read_once : (one : ReadsOnce) (text : List ℕ) (s t : Seen) → ReadsPlain text (Ok s) → ReadsPlain text (Ok t)
    → s ≡ t
read_once one text s t h g = seen_of s t (Ok s) (Ok t) refl refl (one text (Ok s) (Ok t) h g)

-- ---- the row of a line

domain_once : (asked : Domain) (url : Parts) (a b : Domain) → IsDomainFor asked url a → IsDomainFor asked url b → a ≡ b
domain_once (host_only text) url a b h g = absurd h
domain_once (suffix text) url a b h g = h.0 ∙ sym g.0
domain_once not_present url a b h g = some_domain a b (sym h ∙ g)
domain_once empty url a b h g = some_domain a b (sym h ∙ g)

some_domain_once : (o : Option Domain) (url : Parts) (a b : Domain) → IsSomeAnd o (λ asked. IsDomainFor asked url a)
    → IsSomeAnd o (λ asked. IsDomainFor asked url b) → a ≡ b
some_domain_once None url a b h g = absurd h
some_domain_once (Some asked) url a b h g = domain_once asked url a b h g

pub made_once : (received : Seen) (url : Parts) (now : ℤ) (a b : Row) → IsMade received url now a
    → IsMade received url now b → a ≡ b
made_once received url now a b h g =
    let raw = h.raw ∙ sym g.raw in
    let path = h.path ∙ sym g.path in
    let domain = some_domain_once (asked_domain received.cookie) url a.domain b.domain h.domain g.domain in
    let ends = h.ends ∙ sym g.ends in
    λ i. record { raw = raw i; path = path i; domain = domain i; death = ends i }

pub row_once : (one : ReadsOnce) → LinesMakeOneRow
row_once one line url now a b (s, reads, h) (t, again, g) =
    made_once (unsliced t.cookie) url now a b
    (subst (λ (x : Seen). IsMade (unsliced x.cookie) url now a) (read_once one line s t reads again) h) g

-- ---- what is kept

death_once : (death a b : Option ℤ) → IsWholeDeath death a → IsWholeDeath death b → a ≡ b
death_once None None None h g = refl
death_once None None (Some y) h g = absurd g
death_once None (Some x) b h g = absurd h
death_once (Some m) None b h g = absurd h
death_once (Some m) (Some x) None h g = absurd g
death_once (Some m) (Some x) (Some y) h g =
    let below = g.greatest h.seconds (subst (λ n. n ≤ℤ m) h.whole h.below) in
    let above = h.greatest g.seconds (subst (λ n. n ≤ℤ m) g.whole g.below) in
    let same : x ≡ y = omega (arith, signed_arith, h.whole, g.whole, below, above) in
    ap Some same

pub reread_once : (one : ReadsOnce) (row a b : Row) → IsReread row a → IsReread row b → a ≡ b
reread_once one row a b h g =
    let reads = read_once one (printed row.raw.cookie) h.seen g.seen h.reads g.reads in
    let raw = h.raw ∙ (ap (λ (s : Seen). unsliced s.cookie) reads ∙ sym g.raw) in
    let path = h.path ∙ sym g.path in
    let domain = h.domain ∙ sym g.domain in
    let death = death_once row.death a.death b.death h.death g.death in
    λ i. record { raw = raw i; path = path i; domain = domain i; death = death i }

all_once : (one : ReadsOnce) (rows a b : List Row) → Pairwise IsReread rows a → Pairwise IsReread rows b → a ≡ b
all_once one [] [] [] p q = refl
all_once one [] [] (y ∷ ys) p q = absurd q
all_once one [] (x ∷ xs) b p q = absurd p
all_once one (r ∷ rs) [] b p q = absurd p
all_once one (r ∷ rs) (x ∷ xs) [] p q = absurd q
all_once one (r ∷ rs) (x ∷ xs) (y ∷ ys) p q =
    let first = reread_once one r x y p.0 q.0 in
    let rest = all_once one rs xs ys p.1 q.1 in
    λ i. first i ∷ rest i

pub kept_once : (one : ReadsOnce) → KeptOnce
kept_once one rows saving loading a b h g =
    h.lives ∙ (ap (live loading) (all_once one (saved saving rows) h.read g.read h.reread g.reread) ∙ sym g.lives)
