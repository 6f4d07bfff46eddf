-- What contracts see of a signed jar of a ring: its ring and moment, and the jar that it reads, or that it
-- reads and writes.
use Rattle.std.specs.Prelude.{◌≡◌}
use Rattle.std.specs.Borrow.{GName}
use Rattle.jiff.specs.Types.{DateTime}
use Rattle.cookie.specs.declared.secure.signed_ring_jar.SignedRingJar.{SignedRingJar}
use Rattle.cookie.specs.declared.secure.signed_ring_jar.SignedRingJarMut.{SignedRingJarMut}
use Rattle.cookie.specs.Jar.{Jar}
use Rattle.cookie.specs.KeyRing.{Ring}

abbrev pub jar_read : SignedRingJar → Jar
jar_read child = child.parent.now

abbrev pub ring_of : SignedRingJar → Ring
ring_of child = child.ring.now

abbrev pub moment_of : SignedRingJar → DateTime
moment_of child = child.moment

abbrev pub jar_written : SignedRingJarMut → Jar
jar_written child = child.parent.now

abbrev pub written_ring : SignedRingJarMut → Ring
written_ring child = child.ring.now

abbrev pub written_moment : SignedRingJarMut → DateTime
written_moment child = child.moment

-- which borrow of that jar it holds
abbrev pub borrow_of : SignedRingJarMut → GName
borrow_of child = child.parent.ghost_name

-- it holds the same borrow, the same ring and the same moment
abbrev pub KeepsParts : SignedRingJarMut → SignedRingJarMut → Type 0
KeepsParts old new = (borrow_of new ≡ borrow_of old) × (written_ring new ≡ written_ring old)
    × (written_moment new ≡ written_moment old)
