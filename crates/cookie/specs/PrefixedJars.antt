-- What contracts see of a prefixed jar: the jar that it reads, or that it reads and writes.
use Rattle.std.specs.Borrow.{GName}
use Rattle.cookie.specs.declared.prefixed_jar.PrefixedJar.{PrefixedJar}
use Rattle.cookie.specs.declared.prefixed_jar.PrefixedJarMut.{PrefixedJarMut}
use Rattle.cookie.specs.Jar.{Jar}

module _ {P : Type 0} where
  abbrev pub jar_read : PrefixedJar P → Jar
  jar_read child = child.parent.now

  abbrev pub jar_written : PrefixedJarMut P → Jar
  jar_written child = child.parent.now

  -- which borrow of that jar it holds
  abbrev pub borrow_of : PrefixedJarMut P → GName
  borrow_of child = child.parent.ghost_name
