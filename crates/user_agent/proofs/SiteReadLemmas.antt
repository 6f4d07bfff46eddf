-- Of the printed text of a cookie its own SameSite is read.
use Rattle.std.proofs.Common.{◌≡◌, ℕ, Bool, true, false, List, ◌∷◌, Option, Some, None, Ok, ap, option_map, refl}
use Rattle.std.proofs.Common.{◌∙◌, subst, sym}
use Rattle.std.specs.List.{All}
use Rattle.std.specs.Str.{trim_start, trim_end, chars}
use lib.Utf8.{encode}
use Rattle.std.proofs.lemmas.List.Elements.{All-head, All-tail}
use Rattle.std.proofs.lemmas.Option.{same_Some}
use Rattle.cookie_client.proofs.Texts.{some_is_not_none}
use Rattle.cookie_text.specs.Again.{IsReadPair}
use Rattle.cookie_text.specs.Attribute.{Attribute, Domain, Expires, HttpOnly, MaxAge, OfSite, Partitioned, Path, Secure}
use Rattle.cookie_text.specs.Pieces.{text_after, value_of}
use Rattle.cookie_text.specs.Printing.{attribute_text, attributes_of, flag, is_set, printed}
use Rattle.cookie_text.specs.Reading.{GivesSite, HasLast, ReadsPlain}
use Rattle.cookie_text.specs.Record.{Record, Seen}
use Rattle.cookie_text.specs.declared.draft.SameSite.{SameSite}
use Rattle.cookie_text.specs.declared.draft.SameSite.TheVariants.{Strict, Lax, None as Unrestricted}
use Rattle.cookie_text.proofs.BoundAgain.{all_at, other_name, there_all}
use Rattle.cookie_text.proofs.NormalLemmas.{pieces_of}
use Rattle.cookie_text.proofs.PrintedAttributes.{reads-SameSite}
use Rattle.user_agent.proofs.FlagLemmas.{IsUncut, attributes_read, each_there}

-- ---- the pieces behind one that may be there

behind_flag : (P : List ℕ → Type 0) (b : Bool) (a : Attribute) (os : List (Option Attribute))
    → All P (pieces_of (flag b a ∷ os)) → All P (pieces_of os)
behind_flag P true a os h = All-tail P (32 ∷ attribute_text a) (pieces_of os) h
behind_flag P false a os h = h

first_site : (P : List ℕ → Type 0) (o : Option SameSite) (s : SameSite) (os : List (Option Attribute)) → o ≡ Some s
    → All P (pieces_of (option_map OfSite o ∷ os)) → P (32 ∷ attribute_text (OfSite s))
first_site P None s os e h = absurd (some_is_not_none s (sym e))
first_site P (Some t) s os e h =
    subst (λ x. P (32 ∷ attribute_text (OfSite x))) (same_Some t s e)
    (All-head P (32 ∷ attribute_text (OfSite t)) (pieces_of os) h)

-- ---- the one that is read

module _ (r : Record) (strict : r.same_site ≡ Some Strict) where
  abbrev here : List (List ℕ)
  here = pieces_of (attributes_of r)

  printed_says : (x : SameSite) → GivesSite (32 ∷ attribute_text (OfSite Strict)) x → x ≡ Strict
  unfolding value_of text_after trim_start trim_end chars encode
  printed_says Strict g = refl
  printed_says Lax g = absurd (cc (g.says.1, g.says.2))
  printed_says Unrestricted g = absurd (cc (g.says.1, g.says.2))

  says : (s : SameSite) → r.same_site ≡ Some s → (x : SameSite) → GivesSite (32 ∷ attribute_text (OfSite s)) x
      → x ≡ Strict
  says s e x g =
      printed_says x
      (subst (λ y. GivesSite (32 ∷ attribute_text (OfSite y)) x) (same_Some s Strict (sym e ∙ strict)) g)

  each_says : All (λ p. (x : SameSite) → GivesSite p x → x ≡ Strict) here
  each_says =
      there_all (λ p. (x : SameSite) → GivesSite p x → x ≡ Strict) (attributes_of r)
      (each_there (λ a. (x : SameSite) → GivesSite (32 ∷ attribute_text a) x → x ≡ Strict) r
      (λ x g. absurd (other_name HttpOnly (OfSite x) refl refl g)) says
      (λ e x g. absurd (other_name Partitioned (OfSite x) refl refl g))
      (λ e x g. absurd (other_name Secure (OfSite x) refl refl g))
      (λ t e x g. absurd (other_name (Path t) (OfSite x) refl refl g))
      (λ t e x g. absurd (other_name (Domain t) (OfSite x) refl refl g))
      (λ z x g. absurd (other_name (MaxAge z) (OfSite x) refl refl g))
      (λ d x g. absurd (other_name (Expires d) (OfSite x) refl refl g)))

  one_says : ¬ (All (λ p. (x : SameSite) → ¬ (GivesSite p x)) here)
  one_says none =
      first_site (λ p. (x : SameSite) → ¬ (GivesSite p x)) r.same_site Strict _ strict
      (behind_flag (λ p. (x : SameSite) → ¬ (GivesSite p x)) (is_set r.http_only) HttpOnly _ none) Strict
      (reads-SameSite Strict).gives

  last_says : (o : Option SameSite) → HasLast GivesSite here o → o ≡ Some Strict
  last_says None none = absurd (one_says none)
  last_says (Some x) last =
      ap Some
      (all_at (λ p. (y : SameSite) → GivesSite p y → y ≡ Strict) last.before last.piece last.after
      (subst (All (λ p. (y : SameSite) → GivesSite p y → y ≡ Strict)) last.split each_says) x last.given)

  -- of a Strict cookie that is saved a Strict one is loaded
  pub strict_read : (s : Seen) → IsReadPair r.name r.value → IsUncut r → ReadsPlain (printed r) (Ok s)
      → s.cookie.same_site ≡ Some Strict
  strict_read s pair uncut h = last_says s.cookie.same_site (attributes_read r s pair uncut h).same_site
