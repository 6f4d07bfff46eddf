-- Small cases, computed.
use Rattle.std.proofs.Common.{◌≡◌, ℕ, ◌*◌, ◌+◌, ℤ, pos, true, List, [], ◌∷◌, refl, Option, Some, None, codes, Ok, Err}
use Rattle.jiff.specs.Types.{DateTime}
use Rattle.cookie_text.specs.declared.expiration.Expiration.TheVariants.{DateTime as At}
use Rattle.cookie_text.specs.Normal.{normal}
use Rattle.cookie_text.specs.Record.{Seen, bare, unsliced}
use Rattle.store_parts.specs.DomainMatch.{host_only}
use Rattle.store_parts.specs.Expiry.{death, epoch}
use Rattle.cookie_client.specs.Ways.{Plain, Signed}
use Rattle.cookie_client.specs.declared.way.Way.TheVariants as ways
use Rattle.cookie_store.specs.Insertion.{settled}
use Rattle.cookie_store.specs.Rows.{Row}
use Rattle.cookie_run.specs.Site.{Held, nothing, live_view, left_by_all, restarted}
use Rattle.cookie_store.specs.declared.action.StoreAction.TheVariants.{Inserted, ExpiredExisting, UpdatedExisting}
use Rattle.cookie_client.specs.declared.command.Command.{Command}
use Rattle.cookie_client.specs.declared.command.Command.TheVariants.{Set, Remove}
use Rattle.store_parts.specs.declared.error.CookieError.TheVariants.{Expired}

-- a second of 1971 and later ones
abbrev at : ℕ → ℤ
at n = pos (31_536_000 * 1_000_000_000 + n * 1_000_000_000)

abbrev secs : ℕ → ℤ
secs n = pos (n * 1_000_000_000)

-- `NAME=VALUE`, and the same with a Max-Age
abbrev plain : List ℕ → List ℕ → Seen
plain n v = unsliced (bare n v)

abbrev aged : List ℕ → List ℕ → ℕ → Seen
aged n v age = unsliced (record (bare n v) { max_age = Some (secs age) })

abbrev a : List ℕ
a = codes "a"

abbrev set : Seen → Command
set s = Set ways.Plain s

-- what a request at a moment finds under a name after one exchange on an empty site, delivered at another
abbrev found : ℤ → List Command → ℤ → List ℕ → Option (List ℕ)
found delivered cs later name = value_in (live_view (left_by_all delivered nothing cs) later name)
  where
    value_in : Option Rattle.cookie_run.specs.Site.Entry → Option (List ℕ)
    value_in None = None
    value_in (Some e) = Some e.value

-- ---- a set whose death is at its delivery or before it

dead_set : left_by_all (at 5) nothing (set (plain a (codes "1")) ∷ set (aged a (codes "2") 0) ∷ []) a ≡ None
dead_set = refl

-- a set that is alive after one that isn't
alive_after : found (at 5) (set (aged a (codes "2") 0) ∷ set (plain a (codes "1")) ∷ []) (at 6) a ≡ Some (codes "1")
alive_after = refl

-- ---- Max-Age counts from the delivery: opened at 0, delivered at 5

age_before : found (at 5) (set (aged a (codes "1") 10) ∷ []) (at 14) a ≡ Some (codes "1")
age_before = refl

-- ---- a moment that is the death is past it

age_at : found (at 5) (set (aged a (codes "1") 10) ∷ []) (at 15) a ≡ None
age_at = refl

-- ---- with both, Max-Age decides; the expiry is any moment

both : (d : DateTime) → death (normal (record (bare a (codes "1")) { max_age = Some (secs 10); expires = Some (At d) }))
    (at 5) ≡ Some (at 15)
both d = refl

neither : (d : DateTime)
    → death (normal (record (bare a (codes "1")) { max_age = Some (secs 0); expires = Some (At d) })) (at 5) ≡ Some
    epoch
neither d = refl

-- a fraction of a Max-Age is dropped, so half a second is none
half : death (normal (record (bare a (codes "1")) { max_age = Some (pos 500_000_000) })) (at 5) ≡ Some epoch
half = refl

-- ---- a removal under a prefix

removed_host : left_by_all (at 5) nothing (Set ways.Host (plain a (codes "1")) ∷ Remove ways.Host a ∷ [])
    (codes "__Host-a") ≡ None
removed_host = refl

-- it is the stored name that counts
removed_stored : left_by_all (at 5) nothing (Set ways.Host (plain a (codes "1")) ∷ Remove ways.Plain
    (codes "__Host-a") ∷ []) (codes "__Host-a") ≡ None
removed_stored = refl

kept_host : found (at 5) (Set ways.Host (plain a (codes "1")) ∷ Remove ways.Plain a ∷ []) (at 5)
    (codes "__Host-a") ≡ Some (codes "1")
kept_host = refl

-- ---- two sets of one name

last_wins : found (at 5) (set (plain a (codes "1")) ∷ set (plain a (codes "2")) ∷ []) (at 5) a ≡ Some (codes "2")
last_wins = refl

-- in another way the name is the same: the later kind stands
other_way : left_by_all (at 5) nothing (set (plain a (codes "1")) ∷ Set ways.Signed (plain a (codes "2")) ∷ []) a ≡ Some
    (record { entry = record { kind = Signed; value = codes "2" }; death = None })
other_way = refl

-- ---- a restart

-- what has no death is gone, and what has one stays until then
abbrev after_restart : Seen → ℤ → Option Held
after_restart c later = restarted (left_by_all (at 5) nothing (set c ∷ [])) later a

no_death : after_restart (plain a (codes "1")) (at 6) ≡ None
no_death = refl

lasting : after_restart (aged a (codes "1") 10) (at 14) ≡ Some
    (record { entry = record { kind = Plain; value = codes "1" }; death = Some (at 15) })
lasting = refl

no_longer : after_restart (aged a (codes "1") 10) (at 15) ≡ None
no_longer = refl

-- ---- the rows

abbrev row : List ℕ → List ℕ → Option ℤ → Row
row n v death = record {
  raw = plain n v;
  path = record { text = codes "/"; from_attribute = true };
  domain = host_only
      (codes "h");
  death = death;
}

abbrev b : List ℕ
b = codes "b"

abbrev old : List Row
old = row a (codes "1") (Some (at 10)) ∷ row b (codes "2") None ∷ []

-- a set over an expired row keeps its place
over_expired : settled old (at 10) (row a (codes "3") None) ≡ (
  Ok UpdatedExisting,
  row a (codes "3") None ∷ row b
      (codes "2") None ∷ [],
)
over_expired = refl

-- a removal over it is `Expired`, and changes nothing
removed_expired : settled old (at 10) (row a [] (Some epoch)) ≡ (Err Expired, old)
removed_expired = refl

-- over a live one it is kept, with the epoch for its death, its value too
removed_live : settled old (at 9) (row a [] (Some epoch)) ≡ (
  Ok ExpiredExisting,
  row a (codes "1") (Some epoch) ∷ row b
      (codes "2") None ∷ [],
)
removed_live = refl

-- a death at the moment of receipt is past
dead_now : settled old (at 9) (row b (codes "4") (Some (at 9))) ≡ (
  Ok ExpiredExisting,
  row a (codes "1")
      (Some (at 10)) ∷ row b (codes "2") (Some epoch) ∷ [],
)
dead_now = refl

-- a new row goes behind the last of its domain
abbrev other : Row
other = record (row b (codes "5") None) { domain = host_only (codes "g") }

in_group : settled (row a (codes "1") None ∷ other ∷ []) (at 9) (row b (codes "2") None) ≡ (
  Ok Inserted,
  row a
      (codes "1") None ∷ row b (codes "2") None ∷ other ∷ [],
)
in_group = refl
