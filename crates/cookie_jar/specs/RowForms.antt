-- Rows with their domains in IDNA form (RFC 6265, 5.1.2), as an import takes them (this repository's own).
use Rattle.std.specs.Prelude.{◌==◌, ℕ, List, Option, Some, None, if◌then◌else◌, option_map, slice_index}
use Rattle.store_parts.specs.DomainMatch.{Domain, dot, host_only, suffix}
use Rattle.store_parts.specs.DomainText.{read_domain}
use Rattle.cookie_store.specs.Rows.{Row}

-- a form that still begins with a dot, where one was left out, is none
abbrev pub unless_dotted : List ℕ → Option (List ℕ)
unless_dotted form = if slice_index form 0 == dot then None else Some form

-- the form of a domain's text, by what the text reads as
abbrev pub form_in : Option Domain → Option (List ℕ)
form_in (Some (suffix form)) = unless_dotted form
form_in other = None

-- the domain in that form
abbrev pub domain_in_form : Domain → Option Domain
domain_in_form (host_only text) = option_map host_only (form_in (read_domain text))
domain_in_form (suffix text) = option_map suffix (form_in (read_domain text))
domain_in_form other = None

-- the row with its domain so
abbrev pub row_in_form : Row → Option Row
row_in_form row = option_map (λ domain. record row { domain = domain }) (domain_in_form row.domain)
