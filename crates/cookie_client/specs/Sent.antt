-- What becomes of the line of a session's cookie, received at an https URL of the host that sent it.
use Rattle.std.specs.Prelude.{◌≡◌, ◌⊎◌, ℤ, ℕ, List, codes, true, false}
use Rattle.std.specs.List.{list_any}
use Rattle.cookie_text.specs.Printing.{escaped}
use Rattle.cookie_text.specs.Normal.{normal}
use Rattle.cookie_text.specs.Record.{Record}
use Rattle.store_parts.specs.DomainMatch.{host_only}
use Rattle.store_parts.specs.Expiry.{death, is_dead}
use Rattle.store_parts.specs.declared.error.CookieError.TheVariants.{Expired}
use Rattle.cookie_store.specs.Rows.{Row, is_live_of, put}
use Rattle.cookie_store.specs.declared.action.StoreAction.TheVariants.{Inserted, ExpiredExisting, UpdatedExisting}
use Rattle.cookie_client.specs.declared.outcome.LineEnd.TheVariants.{Stored, Refused}
use Rattle.cookie_client.specs.declared.outcome.LineEnd.{LineEnd}

-- its row, received at the moment: of the host alone, under the path `/`, name and value still escaped, with the death
-- of its normal form
pub record IsRowFor (host : List ℕ) (c : Record) (now : ℤ) (row : Row) : Type 0 where
  pub domain : row.domain ≡ host_only host
  pub path : row.path ≡ record { text = codes "/"; from_attribute = true }
  pub name : row.raw.cookie.name ≡ escaped c.name
  pub value : row.raw.cookie.value ≡ escaped c.value
  pub death : row.death ≡ death (normal c) now

-- it is put among the rows, or, dead at receipt, it leaves no live row of its key; no cause but that refuses it
abbrev pub IsTaken : List Row → ℤ → Row → LineEnd → List Row → Type 0
IsTaken rows now row end new =
    ((is_dead now row.death ≡ false) × ((end ≡ Stored Inserted) ⊎ (end ≡ Stored UpdatedExisting))
    × (new ≡ put row rows))
    ⊎ ((is_dead now row.death ≡ true) × ((end ≡ Stored ExpiredExisting) ⊎ (end ≡ Refused Expired))
    × (list_any (is_live_of now row) new ≡ false))
