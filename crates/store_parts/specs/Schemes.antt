-- The schemes and hosts that HttpOnly and Secure ask for (RFC 6265, 5.4).
use Rattle.std.specs.Prelude.{◌≡◌, ◌⊎◌, ◌++◌, ℕ, List, Option, codes, option_map, IsSomeAnd}
use Rattle.std.specs.Net.Addr.{IsLoopbackV4, IsLoopbackV6}
use Rattle.url.specs.Parts.{Parts, nonempty_host}
use Rattle.url.specs.Host.{host_text}
use Rattle.url.specs.declared.host.Host.{Host}
use Rattle.url.specs.declared.host.Host.TheVariants.{Domain, Ipv4, Ipv6}

-- the URL's host as it writes it, an IPv6 address between brackets, where it has one
abbrev pub host_of : Parts → Option (List ℕ)
host_of url = option_map host_text (nonempty_host url)

-- the scheme begins with `http`, as `http` and `https` do
abbrev pub IsHttpScheme : Parts → Type 0
IsHttpScheme url = (rest : List ℕ) × (url.scheme ≡ codes "http" ++ rest)

-- this host: `localhost`, 127.0.0.0/8 or ::1
abbrev pub IsThisHost : Host (List ℕ) → Type 0
IsThisHost (Domain domain) = domain ≡ codes "localhost"
IsThisHost (Ipv4 address) = IsLoopbackV4 address
IsThisHost (Ipv6 address) = IsLoopbackV6 address

-- a secure protocol, which is `https`, or a host that no network lies before
abbrev pub IsSecure : Parts → Type 0
IsSecure url = (url.scheme ≡ codes "https") ⊎ IsSomeAnd (nonempty_host url) IsThisHost
