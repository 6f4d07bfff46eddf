-- What contracts see of a signed jar: its key, and the jar that it reads, or that it reads and writes.
use Rattle.std.specs.Prelude.{◌≡◌, ℕ, List}
use Rattle.std.specs.Borrow.{GName}
use Rattle.cookie.specs.declared.secure.signed_jar.SignedJar.{SignedJar}
use Rattle.cookie.specs.declared.secure.signed_jar.SignedJarMut.{SignedJarMut}
use Rattle.cookie.specs.Jar.{Jar}

abbrev pub jar_read : SignedJar → Jar
jar_read child = child.parent.now

abbrev pub reading_key : SignedJar → List ℕ
reading_key child = child.key

abbrev pub jar_written : SignedJarMut → Jar
jar_written child = child.parent.now

abbrev pub writing_key : SignedJarMut → List ℕ
writing_key child = child.key

-- which borrow of that jar it holds
abbrev pub borrow_of : SignedJarMut → GName
borrow_of child = child.parent.ghost_name

-- it holds the same borrow and the same key
abbrev pub KeepsParts : SignedJarMut → SignedJarMut → Type 0
KeepsParts old new = (borrow_of new ≡ borrow_of old) × (writing_key new ≡ writing_key old)
