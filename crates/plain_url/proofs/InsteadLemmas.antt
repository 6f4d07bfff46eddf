-- A web URL's text without user name and password.
use Rattle.std.proofs.Common.{◌≡◌, ◌∙◌, ◌++◌, true, [], ap, append-nil, append_assoc, drop, drop_at, inl}
use Rattle.std.proofs.Common.{length, map, refl, subst, take, take_at}
use Rattle.std.specs.Prelude.{None}
use Rattle.std.specs.Char.{to_ascii_lowercase}
use Rattle.std.proofs.lemmas.List.Elements.{All-nil}
use Rattle.url.specs.Parts.{IsValid, IsValidHead, Parts, has_authority, kind_of, serialize}
use Rattle.url.specs.Scheme.{is_special}
use Rattle.url.proofs.Theorems.{parse_url-serialize_special}
use Rattle.url.proofs.ValidLemmas.{special_has_authority}
use Rattle.plain_url.specs.Plain.{HasNoUser, IsOwnText, IsPlain, IsWeb, site, target, without_user}
use Rattle.plain_url.proofs.ReadLemmas.{web_is_special}

-- the URL without a user
abbrev plain_parts : Parts → Parts
plain_parts url = record {
  scheme = url.scheme;
  username = [];
  password = [];
  host = url.host;
  port = url.port;
  path = url.path;
  query = url.query;
  fragment = url.fragment;
}

text_is : (url : Parts) → serialize (plain_parts url) ≡ without_user url
text_is url = simp (append_assoc, append-nil)

valid_head : (url : Parts) → IsValidHead url → IsValidHead (plain_parts url)
valid_head url valid = record {
  scheme = valid.scheme;
  username = All-nil _;
  password = All-nil _;
  host = valid.host;
  port = valid.port;
  bare = λ bare. (refl, refl, (valid.bare bare).2);
}

is_valid : (url : Parts) → IsValid url → IsValid (plain_parts url)
is_valid url valid = record {
  head = valid_head url valid.head;
  path = valid.path;
  query = valid.query;
  fragment = valid.fragment;
}

spelled : (url : Parts) → has_authority url ≡ true → serialize url ≡ site url ++ target url
spelled url authority = rw authority (simp (append_assoc, append-nil))

own : (url : Parts) → IsValid url → IsWeb url → url.username ≡ [] → url.password ≡ [] → IsOwnText (serialize url) url
own url valid web user password =
    let special : is_special (kind_of url) ≡ true = ap is_special (web_is_special url.scheme web.0) in
    let parts = spelled url (special_has_authority url valid.head special) in
    let n = length (site url) in
    record {
      web = web;
      user = (user, password);
      same_site = ap (map to_ascii_lowercase) (ap (take n) parts ∙ take_at (site url) (target url) n refl);
      same_target = inl (ap (drop n) parts ∙ drop_at (site url) (target url) n refl);
    }

-- the own text of a web URL without a user
pub own_text_is_plain : (url : Parts) → IsValid url → IsWeb url → HasNoUser url → IsPlain (serialize url)
own_text_is_plain url valid web user =
    let scheme = web_is_special url.scheme web.0 in
    (url, (parse_url-serialize_special url None valid scheme, own url valid web user.0 user.1))

pub without_user_is_plain : (url : Parts) → IsValid url → IsWeb url → IsPlain (without_user url)
without_user_is_plain url valid web =
    let bare = plain_parts url in
    let whole = is_valid url valid in
    let scheme = web_is_special url.scheme web.0 in
    subst IsPlain (text_is url)
    (bare, (parse_url-serialize_special bare None whole scheme, own bare whole web refl refl))
