-- The jar that a command begins with (this repository's own).
use Rattle.std.specs.Prelude.{◌≡◌, ◌⊎◌, ℕ, ℤ, Bool, true, false, List, [], Option, Some, None, IsSomeAnd, length}
use Rattle.std.specs.Prelude.{nat_lt}
use Rattle.publicsuffix.specs.Looks.{IsNotStrange, IsStrange}
use Rattle.publicsuffix.specs.Rules.{Rule}
use Rattle.cookie_store.specs.Given.{ArePicked}
use Rattle.cookie_store.specs.Rows.{Row, Store}
use Rattle.cookie_client.specs.Loading.{IsNoSuffixList, IsSuffixList}
use Rattle.cookie_jar.specs.Keeping.{IsKept}
use Rattle.cookie_jar.specs.Reading.{IsNoText, Reads}
use Rattle.cookie_jar.specs.declared.form.Form.{Form}
use Rattle.jar_commands.specs.declared.failure.Failure.{Failure}
use Rattle.jar_commands.specs.declared.failure.Failure.TheVariants.{SuffixList, JarText, Memory}

-- the rows of a jar's text that a jar keeps and that aren't expired at the moment, or none where there is no text
abbrev pub AreRows : Form → ℤ → Option (List ℕ) → List Row → Type 0
AreRows form now None rows = rows ≡ []
AreRows form now (Some text) rows =
    (store : Store) × Reads form now text store × ArePicked IsKept store.rows rows

-- a suffix list has a rule at least
abbrev pub has_rule : List Rule → Bool
has_rule list = nat_lt 0 (length list)

-- the text is a suffix list, of these rules, of which there is one at least, and the first stands in a line of the
-- characters of host names
abbrev pub IsListOf : List ℕ → List Rule → Type 0
IsListOf text list = (IsSuffixList text list × IsNotStrange text) × (has_rule list ≡ true)

-- the text is no suffix list, or its first line that isn't passed over is of other characters, or it has no rule; or
-- memory was refused
abbrev pub MakesNoList : List ℕ → Failure → Type 0
MakesNoList text failure =
    (failure ≡ Memory)
    ⊎ ((failure ≡ SuffixList) × ((IsNoSuffixList text ⊎ ((number : ℕ) × IsStrange text number))
    ⊎ ((list : List Rule) × IsSuffixList text list × (has_rule list ≡ false))))

-- the jar of a suffix list's text and a jar's text, or none
abbrev pub IsJar : Form → ℤ → List ℕ → Option (List ℕ) → Store → Type 0
IsJar form now suffixes stored jar = IsListOf suffixes jar.suffixes × AreRows form now stored jar.rows

-- no jar is made of these texts: the first makes no list; or it is one, and the other no text of the form
abbrev pub MakesNoJar : Form → List ℕ → Option (List ℕ) → Failure → Type 0
MakesNoJar form suffixes stored failure =
    MakesNoList suffixes failure
    ⊎ ((failure ≡ JarText) × ((list : List Rule) × IsListOf suffixes list) × IsSomeAnd stored (IsNoText form))
