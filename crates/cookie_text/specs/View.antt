-- What contracts see of a `Cookie`.
use Rattle.std.specs.Prelude.{option_map, option_and_then}
use Rattle.jiff.specs.Words.{signed_nanos}
use Rattle.cookie_text.specs.PartText.{part_text, raw_text}
use Rattle.cookie_text.specs.declared.cookie.Cookie.TheInside.{Inside}
use Rattle.cookie_text.specs.Record.{Record, Raw, Seen, without_dot}

abbrev pub record_of : Inside → Record
record_of c = record {
  name = part_text c.name;
  value = part_text c.value;
  http_only = c.http_only;
  secure = c.secure;
  partitioned = c.partitioned;
  same_site = c.same_site;
  max_age = option_map signed_nanos c.max_age;
  path = option_map part_text c.path;
  domain = option_map part_text c.domain;
  expires = c.expires;
}

abbrev pub raw_of : Inside → Raw
raw_of c = record {
  name = raw_text c.name;
  value = raw_text c.value;
  path = option_and_then raw_text c.path;
  domain = option_map without_dot (option_and_then raw_text c.domain);
}

abbrev pub seen_of : Inside → Seen
seen_of c = record { cookie = record_of c; raw = raw_of c }
