-- The definitions at small inputs, by computation.
use Rattle.std.proofs.Common.{◌≡◌, List, [], ◌∷◌, true, false, refl, ap, ◌∙◌, inl, Some, None}
use Rattle.std.specs.Prelude.{codes}
use Rattle.std.specs.Str.{trim_start, trim_end, chars, is_utf8}
use Rattle.percent_encoding.specs.Percent.{percent_decode, percent_encode_byte}
use Rattle.cookie_text.specs.declared.draft.SameSite.TheVariants.{Lax}
use Rattle.cookie_text.specs.declared.expiration.Expiration.TheVariants.{Session}
use Rattle.cookie_text.specs.Pieces.{name_of, text_after, value_of}
use Rattle.cookie_text.specs.Printing.{encoded, escaped}
use Rattle.cookie_text.specs.Record.{Record, bare, unsliced}
use Rattle.cookie_client.specs.Jar.{sent}
use Rattle.cookie_client.proofs.HeaderCookies.{cookies_by}
use Rattle.cookie_client.specs.Header.{header_of}
use Rattle.cookie_client.specs.declared.way.Way.TheVariants.{Plain, Host, Sealed}
use Rattle.cookie_client.specs.declared.command.Reading.{Reading}
use Rattle.cookie_client.specs.declared.command.Reading.TheVariants.{Value, Refused}
use Rattle.cookie_client.specs.declared.outcome.SessionError.TheVariants.{EmptyName}
use Rattle.cookie_client.specs.declared.command.Command.{Command}
use Rattle.cookie_client.specs.declared.command.Command.TheVariants.{Set}
use Rattle.cookie_client.specs.Ways as kinds
use Rattle.cookie_run.specs.Site.{View, with_at, SetOn, GetOn}
use Rattle.cookie_client.specs.Ways.{stored_name, set_refusal}

-- ---- what is sent

-- the cookie `foo !%?=` with the value `bar;;, a`
sent_line : encoded (sent (unsliced (bare (codes "foo !%?=") (codes "bar;;, a")))).cookie ≡ codes
    "foo%20!%25%3F%3D=bar%3B%3B%2C%20a; Secure; Path=/"
unfolding escaped percent_encode_byte
sent_line = refl

abbrev attributed : Record
attributed = record (bare (codes "a") (codes "1")) {
  http_only = Some true;
  secure = Some false;
  same_site = Some Lax;
  path = Some (codes "/p");
  domain = Some (codes "com");
  expires = Some Session;
}

-- path, Secure and domain are the session's, the other attributes the cookie's
sent_attributes : encoded (sent (unsliced attributed)).cookie ≡ codes "a=1; HttpOnly; SameSite=Lax; Secure; Path=/"
unfolding escaped percent_encode_byte
sent_attributes = refl

-- ---- what is read

a_header : cookies_by false (codes "a=1; b = %32 ;=x; c;a==") ≡ bare (codes "a") (codes "1") ∷ bare (codes "b")
    (codes "2") ∷ bare (codes "a") (codes "=") ∷ []
unfolding trim_start trim_end chars lib.Utf8.encode is_utf8 name_of value_of text_after percent_decode
a_header = refl

-- ---- a header

two_pairs : header_of ((codes "a", codes "1") ∷ (codes "b", codes "2") ∷ []) ≡ codes "a=1; b=2"
two_pairs = refl

-- ---- a site

abbrev no_entry : View
no_entry name = None

abbrev an_entry : View
an_entry = with_at no_entry (codes "a") (Some (record { kind = kinds.Plain; value = codes "1" }))

abbrev the_set : Command
the_set = Set Plain (unsliced (bare (codes "a") (codes "1")))

-- an accepted set writes its entry
written : SetOn no_entry the_set Plain (bare (codes "a") (codes "1")) [] (the_set ∷ []) an_entry
written = inl (refl, refl, refl, refl)

-- that value is read in its way, and no other
read_back : (told : List Reading) → GetOn an_entry Plain (codes "a") told
    → told ≡ Value Plain (codes "a") (Some (codes "1")) ∷ []
read_back told t = t.1 ∙ ap (λ v. Value Plain (codes "a") v ∷ []) (t.2 refl)

-- where there is no entry, none is read
missing : (told : List Reading) → GetOn no_entry Sealed (codes "a") told → told ≡ Value Sealed (codes "a") None ∷ []
missing told t = t.1 ∙ ap (λ v. Value Sealed (codes "a") v ∷ []) t.2

prefixed_name : stored_name Host (codes "a") ≡ codes "__Host-a"
prefixed_name = refl

-- an empty name is refused
refused : set_refusal Plain (bare [] []) ≡ Some EmptyName
refused = refl

refused_get : (told : List Reading) → GetOn no_entry Plain [] told → told ≡ Refused EmptyName ∷ []
refused_get told t = t
