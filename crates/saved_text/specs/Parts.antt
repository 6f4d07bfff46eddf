-- What the code's parts of a row stand for.
use Rattle.std.specs.Prelude.{option_map}
use Rattle.saved_text.specs.Row.{Shown, Domain, host_only, suffix, not_present, empty}
use Rattle.saved_text.specs.declared.json_value.DomainPart.{DomainPart}
use Rattle.saved_text.specs.declared.json_value.DomainPart.TheVariants as part
use Rattle.saved_text.specs.declared.json_value.RowParts.{RowParts}

abbrev pub domain_view : DomainPart → Domain
domain_view (part.HostOnly t) = host_only t.now
domain_view (part.Suffix t) = suffix t.now
domain_view part.NotPresent = not_present
domain_view part.Empty = empty

abbrev pub row_view : RowParts → Shown
row_view r = record {
  raw = r.raw.now;
  path = r.path.now;
  from_attribute = r.from_attribute;
  domain =
      domain_view r.domain;
  expires = option_map (λ t. t.now) r.expires;
}
