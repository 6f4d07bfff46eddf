-- Which rows a jar keeps (RFC 6265, 5.2; draft-ietf-httpbis-rfc6265bis, 4.1.3.2 and 5.6).
use Rattle.std.specs.Prelude.{◌≡◌, ◌==◌, ◌||◌, ◌&&◌, ℕ, Bool, false, not, List, nat_lt, Option, None}
use Rattle.std.specs.List.{AllByRecursion, list_any}
use Rattle.cookie_store.specs.Rows.{Row, domain_text}
use Rattle.cookie_client.specs.HostPrefix.{IsHeldRightly}
use Rattle.cookie_client.specs.Keeping.{HasReadPair}
use Rattle.cookies_txt.specs.Layout.{tab}
use Rattle.cookies_txt.specs.Writing.{row_fault}
use Rattle.cookies_txt.specs.declared.error.RowFault.{RowFault}
use Rattle.cookie_jar.specs.declared.form.Form.{Form}
use Rattle.cookie_jar.specs.declared.form.Form.TheVariants.{Txt}

-- ---- control characters

-- a byte below 32 that isn't a tab, and 127
abbrev pub is_control : ℕ → Bool
is_control b = (nat_lt b 32 && not (b == tab)) || b == 127

abbrev pub has_control : List ℕ → Bool
has_control text = list_any is_control text

-- one of the row's texts has one: its name, its value, its domain or its path
abbrev pub have_control : Row → Bool
have_control row =
    (has_control row.raw.cookie.name || has_control row.raw.cookie.value)
    || (has_control (domain_text row) || has_control row.path.text)

-- none of them has one
abbrev pub IsClean : Row → Type 0
IsClean row = have_control row ≡ false

-- ---- the rows of a jar

-- no control character in name, value, domain or path; name and value as the printed text of the cookie gives them
-- again; and the prefix `__Host-` obeyed
pub record IsKept (row : Row) : Type 0 where
  pub clean : IsClean row
  pub pair : HasReadPair row
  pub held : IsHeldRightly row

abbrev pub AreKept : List Row → Type 0
AreKept rows = AllByRecursion IsKept rows

-- ---- rows that an import takes

-- why a text of the form can't hold the row, where that is so: RON and JSON hold every row
abbrev pub fault_in : Form → Row → Option RowFault
fault_in Txt row = row_fault row
fault_in other row = None

-- a jar keeps it, and the form in which it is saved can hold it
pub record IsTaken (form : Form) (row : Row) : Type 0 where
  pub kept : IsKept row
  pub fits : fault_in form row ≡ None
