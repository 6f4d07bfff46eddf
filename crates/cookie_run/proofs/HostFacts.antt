-- A host beside one of its parent domain's other hosts, and an attacker who answers for it over http: the premises of
-- the headline by `__Host-` are met, those of the headline aren't.
use Rattle.std.proofs.Common.{◌≡◌, ◌≢◌, ◌<◌, ℕ, ℤ, List, [], ◌∷◌, Some, Ok, true, codes, sym, refl, ap, inl, arith}
use Rattle.std.proofs.Common.{◌∙◌, get_or}
use Rattle.std.proofs.lemmas.Str.{IsUtf8-from_is_utf8}
use Rattle.std.specs.Prelude.{unwrap_or}
use Rattle.std.specs.Str.{trim_start, trim_end, chars, is_utf8}
use Rattle.percent_encoding.specs.Percent.{percent_decode}
use Rattle.url.specs.Parts.{Parts}
use Rattle.cookie_text.specs.Attribute.{Gives, Secure, Path}
use Rattle.cookie_text.specs.Pieces.{name_of, text_after, value_of}
use Rattle.cookie_text.specs.Reading.{ReadsPlain}
use Rattle.cookie_text.specs.Record.{Record, Seen, bare, domain_of}
use Rattle.cookie_text.proofs.ReadingLemmas.{HasAttributes-push, not_empty}
use Rattle.cookie_text.proofs.ReadsBack.{bare_has_none}
use Rattle.cookie_client.specs.Steps.{Act, Visits, Answers, Asks, Restarts, Arrives}
use Rattle.cookie_run.specs.Headline.{AnswersBySessions, AnswersApart, Each}
use Rattle.cookie_run.specs.HostHeadline.{IsHostSite, SecureAnswersBySessions}
use Rattle.cookie_run.specs.HostLines.{IsHostSetter, NamesHost}
use Rattle.cookie_client.specs.HostPrefix.{IsAgainstHost}
use Rattle.cookie_client.specs.Hosts.{secure_host}
use Rattle.cookie_client.specs.declared.command.Command.{Command}
use Rattle.cookie_run.proofs.Example.{shop, list, own_form, no_empty_label}
use Rattle.cookie_client.proofs.Lines.{https_of}
use Rattle.cookie_run.proofs.RelatedFacts.{below, at_host, shop_reached, shop_unlisted}
use Rattle.cookie_client.proofs.Texts.{some_is_not_none}

abbrev over_http : List ℕ → Parts
over_http host = record (at_host host) { scheme = codes "http" }

-- `https://shop.com` answers a session; then `http://shop.com` answers with any lines, and a session, and
-- `https://sub.shop.com` with any lines
abbrev all : List Command → List (List ℕ) → List (List ℕ) → ℤ → ℤ → ℤ → List Act
all commands hostile lines at later last =
    Visits (at_host shop) at commands (Arrives later) ∷ Answers (over_http shop) hostile last
    ∷ Visits (over_http shop) last commands (Arrives last) ∷ Answers (at_host below) lines last ∷ []

differ : Some below ≢ Some shop
differ e = let wrong : 117 ≡ 104 = ap (λ o. get_or (unwrap_or o []) 1 0) e in omega (arith, wrong)

plain : secure_host (over_http shop) ≢ Some shop
plain e = some_is_not_none shop (sym e)

pub met : (commands : List Command) (hostile lines : List (List ℕ)) (at later last : ℤ)
    → IsHostSite shop (all commands hostile lines at later last)
met commands hostile lines at later last = record {
  own_form = own_form;
  no_empty_label = no_empty_label;
  sessions = (tt, (plain, (tt, (differ, tt))));
}

-- as where it sets `__Host-a` and `a`
pub met_here : (commands : List Command) (lines : List (List ℕ)) (at later last : ℤ)
    → IsHostSite shop
    (all commands (codes "__Host-a=x" ∷ codes "a=x; Path=/" ∷ []) lines at later last)
met_here commands lines at later last =
    met commands (codes "__Host-a=x" ∷ codes "a=x; Path=/" ∷ []) lines at later last

-- neither of the headline's two premises holds: it answers over http, and the other host isn't apart
pub not_by_sessions : (commands : List Command) (hostile lines : List (List ℕ)) (at later last : ℤ)
    → ¬ (Each (AnswersBySessions shop) (all commands hostile lines at later last))
not_by_sessions commands hostile lines at later last h = h.1.0 refl

pub not_apart : (commands : List Command) (hostile lines : List (List ℕ)) (at later last : ℤ)
    → ¬ (Each (AnswersApart list shop) (all commands hostile lines at later last))
not_apart commands hostile lines at later last h =
    shop_unlisted (h.1.1.1.0 below refl (λ same. differ (ap Some (sym same))) shop some (inl refl) shop_reached)
  where
    some : shop ≢ []
    some e = let wrong : 115 ≡ 0 = ap (λ xs. get_or xs 0 0) e in omega (arith, wrong)

-- ---- with `a=x; Path=/` of its own at https, by no session, it is no such site, and sets its `__Host-` cookies by
-- sessions still

abbrev unprefixed : List ℕ
unprefixed = codes "a=x; Path=/"

abbrev mixed : List Command → List (List ℕ) → List (List ℕ) → ℤ → ℤ → ℤ → List Act
mixed commands hostile lines at later last =
    Answers (at_host shop) (unprefixed ∷ []) at ∷ all commands hostile lines at later last

names_another : ¬ (NamesHost unprefixed)
unfolding percent_decode name_of trim_start trim_end chars lib.Utf8.encode
names_another h =
    let named : h.1.0.cookie.name ≡ codes "a" = h.1.1.name.1 in
    let wrong : 97 ≡ 95 = ap (λ xs. get_or xs 0 0) (ap percent_decode (sym named) ∙ h.1.2.1) in omega (arith, wrong)

pub met_mixed : (commands : List Command) (hostile lines : List (List ℕ)) (at later last : ℤ)
    → IsHostSetter shop (mixed commands hostile lines at later last)
met_mixed commands hostile lines at later last = record {
  own_form = own_form;
  no_empty_label = no_empty_label;
  sessions = (
    (λ here. (names_another, tt)),
    (tt, ((λ here. absurd (plain here)), (tt, ((λ here. absurd (differ here)), tt)))),
  );
}

pub mixed_is_no_site : (commands : List Command) (hostile lines : List (List ℕ)) (at later last : ℤ)
    → ¬ (IsHostSite shop (mixed commands hostile lines at later last))
mixed_is_no_site commands hostile lines at later last h = h.sessions.0 refl

-- ---- who answers by sessions alone, in the words of the headline, answers at https by sessions alone

pub by_sessions : (host : List ℕ) (acts : List Act) → Each (AnswersBySessions host) acts
    → Each (SecureAnswersBySessions host) acts
by_sessions host [] s = tt
by_sessions host (Visits url at commands arrival ∷ acts) s = (tt, by_sessions host acts s.1)
by_sessions host (Answers url lines at ∷ acts) s =
    ((λ here. s.0 (https_of host url here).1), by_sessions host acts s.1)
by_sessions host (Asks url at ∷ acts) s = (tt, by_sessions host acts s.1)
by_sessions host (Restarts at ∷ acts) s = (tt, by_sessions host acts s.1)

-- ---- over http even a line that conforms is against the prefix, its name escaped too

abbrev line : List ℕ
line = codes "%5F%5FHost-a=x; Secure; Path=/"

abbrev secured : Record
secured = record (bare (codes "%5F%5FHost-a") (codes "x")) { secure = Some true }

abbrev cookie : Record
cookie = record secured { path = Some (codes "/") }

abbrev seen : Seen
seen = record {
  cookie = cookie;
  raw = record {
    name = Some cookie.name;
    value = Some cookie.value;
    path = cookie.path;
    domain = domain_of cookie;
  };
}

gives_secure : Gives (codes " Secure") Secure
unfolding name_of value_of text_after trim_start trim_end chars lib.Utf8.encode
gives_secure = record { named = refl; says = tt }

gives_path : Gives (codes " Path=/") (Path (codes "/"))
unfolding name_of value_of text_after trim_start trim_end chars lib.Utf8.encode
gives_path = record { named = refl; says = refl }

reads : ReadsPlain line (Ok seen)
unfolding name_of value_of text_after trim_start trim_end chars lib.Utf8.encode
reads =
    let has : 12 < 14 = omega arith in
    let some : 0 < 12 = omega arith in
    let one = HasAttributes-push [] (codes " Secure") (bare (codes "%5F%5FHost-a") (codes "x")) Secure
    (bare_has_none (codes "%5F%5FHost-a") (codes "x")) gives_secure in
    record {
      accepted = (λ e. (has, some), λ e. refl);
      name = (has, refl, some);
      value = refl;
      attributes = (
        codes " Secure" ∷ codes " Path=/" ∷ [],
        refl,
        HasAttributes-push (codes " Secure" ∷ []) (codes " Path=/") secured (Path (codes "/")) one gives_path,
      );
      raw = record { name = refl; value = refl; path = refl; domain = refl };
      missing_pair = (λ e. cc, λ no. absurd (no has));
      empty_name = (λ e. cc, λ both. absurd (not_empty _ some both.1));
    }

utf8 : is_utf8 line ≡ true
unfolding is_utf8 chars lib.Utf8.encode
utf8 = refl

begins : percent_decode cookie.name ≡ codes "__Host-a"
unfolding percent_decode
begins = refl

pub against : IsAgainstHost (over_http shop) line
against = (IsUtf8-from_is_utf8 line utf8, (seen, reads, ((codes "a", begins), (λ both. not_https both.1))))
  where
    not_https : codes "http" ≢ codes "https"
    not_https e = let wrong : 0 ≡ 115 = ap (λ xs. get_or xs 4 0) e in omega (arith, wrong)
