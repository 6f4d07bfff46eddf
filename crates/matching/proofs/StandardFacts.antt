-- The definitions at values that RFC 6265 and its rules show.
use Rattle.std.proofs.Common.{refl, inl, inr}
use Rattle.std.specs.Prelude.{codes}
use Rattle.matching.specs.Domains.{EndsAfterDot}
use Rattle.matching.specs.Paths.{PathMatches}

-- `/foo` and `/foo/` path-match `/foo/bus`
pub path_matches : PathMatches (codes "/foo") (codes "/foo/bus")
    × PathMatches (codes "/foo/") (codes "/foo/bus")
path_matches = (
  inr (record { rest = codes "/bus"; split = refl; at_slash = inr refl }),
  inr (record { rest = codes "bus"; split = refl; at_slash = inl refl }),
)

-- the hosts that section 4.1.2.3 names for the domain `example.com`
pub hosts_below : EndsAfterDot (codes "www.example.com") (codes "example.com")
    × EndsAfterDot (codes "www.corp.example.com") (codes "example.com")
hosts_below = ((codes "www", refl), (codes "www.corp", refl))
