-- What is printed is read as the normal form.
use Rattle.std.proofs.Common.{◌≡◌, ℕ, Bool, true, false, List, [], ◌∷◌, ◌++◌, Option, Some, None, option_map, ℤ, pos}
use Rattle.std.proofs.Common.{◌*ℤ◌, refl, sym, ap, subst, ◌∙◌, append_assoc, codes}
use Rattle.std.specs.List.{flat_map}
use Rattle.std.proofs.lemmas.List.{append-nil}
use Rattle.cookie_text.specs.declared.draft.SameSite.{SameSite}
use Rattle.cookie_text.specs.declared.expiration.Expiration.{Expiration}
use Rattle.cookie_text.specs.declared.expiration.Expiration.TheVariants.{DateTime as At, Session}
use Rattle.cookie_text.specs.Pieces.{semicolon}
use Rattle.cookie_text.specs.Record.{Record, bare, domain_of}
use Rattle.cookie_text.specs.Attribute.{Attribute, HttpOnly, Secure, Partitioned, OfSite, MaxAge, Path, Domain, Expires}
use Rattle.cookie_text.specs.Attribute.{Gives}
use Rattle.cookie_text.specs.Reading.{HasAttributes}
use Rattle.cookie_text.specs.Steps.{with_attribute}
use Rattle.cookie_text.specs.Printing.{attribute_text, piece_text, flag, end_of, attributes_of, is_set, prints_secure}
use Rattle.cookie_text.specs.Printing.{whole_seconds}
use Rattle.cookie_text.specs.Normal.{kept, not_below_zero, whole_moment, whole_end, normal}
use Rattle.cookie_text.proofs.ReadingLemmas.{HasAttributes-push}

-- what a printed attribute reads as
abbrev pub settled : Attribute → Attribute
settled (MaxAge z) = MaxAge (not_below_zero z)
settled (Expires d) = Expires (whole_moment d)
settled HttpOnly = HttpOnly
settled Secure = Secure
settled Partitioned = Partitioned
settled (OfSite s) = OfSite s
settled (Path t) = Path t
settled (Domain t) = Domain t

-- the pieces that are printed after the pair, each with the space before it
abbrev pub pieces_of : List (Option Attribute) → List (List ℕ)
pieces_of [] = []
pieces_of (None ∷ os) = pieces_of os
pieces_of (Some a ∷ os) = (32 ∷ attribute_text a) ∷ pieces_of os

pub printed_pieces : (os : List (Option Attribute)) → flat_map piece_text os ≡ flat_map (λ q. semicolon ∷ q)
    (pieces_of os)
printed_pieces [] = refl
printed_pieces (None ∷ os) = printed_pieces os
printed_pieces (Some a ∷ os) = ap (λ t. codes "; " ++ attribute_text a ++ t) (printed_pieces os)

-- each attribute that is there reads as it should
abbrev pub AllRead : List (Option Attribute) → Type 0
AllRead [] = Unit {0}
AllRead (None ∷ os) = AllRead os
AllRead (Some a ∷ os) = Gives (32 ∷ attribute_text a) (settled a) × AllRead os

abbrev pub with_options : Record → List (Option Attribute) → Record
with_options r [] = r
with_options r (None ∷ os) = with_options r os
with_options r (Some a ∷ os) = with_options (with_attribute r (settled a)) os

pub HasAttributes-options : (os : List (Option Attribute)) (ps : List (List ℕ)) (r : Record) → AllRead os
    → HasAttributes ps r → HasAttributes (ps ++ pieces_of os) (with_options r os)
HasAttributes-options [] ps r all h = subst (λ qs. HasAttributes qs r) (sym (append-nil ps)) h
HasAttributes-options (None ∷ os) ps r all h = HasAttributes-options os ps r all h
HasAttributes-options (Some a ∷ os) ps r all h =
    let p = 32 ∷ attribute_text a in
    let more = HasAttributes-options os (ps ++ p ∷ []) (with_attribute r (settled a)) all.1
    (HasAttributes-push ps p r (settled a) h all.0) in
    subst (λ qs. HasAttributes qs (with_options (with_attribute r (settled a)) os))
    (append_assoc ps (p ∷ []) (pieces_of os)) more

-- step by step, the printed attributes make the normal form
module _ (os : List (Option Attribute)) (r : Record) where
  http_only : (b : Bool) → r.http_only ≡ None → with_options r (flag b HttpOnly ∷ os) ≡ with_options
      (record r { http_only = kept b }) os
  http_only true e = refl
  http_only false e = λ i. with_options (record r { http_only = e i }) os

  same_site : (o : Option SameSite) → r.same_site ≡ None → with_options r (option_map OfSite o ∷ os) ≡ with_options
      (record r { same_site = o }) os
  same_site (Some s) e = refl
  same_site None e = λ i. with_options (record r { same_site = e i }) os

  partitioned : (b : Bool) → r.partitioned ≡ None → with_options r (flag b Partitioned ∷ os) ≡ with_options
      (record r { partitioned = kept b }) os
  partitioned true e = refl
  partitioned false e = λ i. with_options (record r { partitioned = e i }) os

  secure : (b : Bool) → r.secure ≡ None → with_options r (flag b Secure ∷ os) ≡ with_options
      (record r { secure = kept b }) os
  secure true e = refl
  secure false e = λ i. with_options (record r { secure = e i }) os

  path : (o : Option (List ℕ)) → r.path ≡ None → with_options r (option_map Path o ∷ os) ≡ with_options
      (record r { path = o }) os
  path (Some t) e = refl
  path None e = λ i. with_options (record r { path = e i }) os

  domain : (o : Option (List ℕ)) → r.domain ≡ None → with_options r (option_map Domain o ∷ os) ≡ with_options
      (record r { domain = o }) os
  domain (Some t) e = refl
  domain None e = λ i. with_options (record r { domain = e i }) os

  max_age : (o : Option ℤ) → r.max_age ≡ None → with_options r
      (option_map (λ nanos. MaxAge (whole_seconds nanos)) o ∷ os) ≡ with_options
      (record r { max_age = option_map (λ nanos. not_below_zero (whole_seconds nanos) *ℤ pos 1_000_000_000) o }) os
  max_age (Some z) e = refl
  max_age None e = λ i. with_options (record r { max_age = e i }) os

  expires : (o : Option Expiration) → r.expires ≡ None → with_options r (end_of o ∷ os) ≡ with_options
      (record r { expires = whole_end o }) os
  expires (Some (At d)) e = refl
  expires (Some Session) e = λ i. with_options (record r { expires = e i }) os
  expires None e = λ i. with_options (record r { expires = e i }) os

pub with_options-attributes_of : (r : Record) → with_options (bare r.name r.value) (attributes_of r) ≡ normal r
with_options-attributes_of r =
    let r1 : Record = record (bare r.name r.value) { http_only = kept (is_set r.http_only) } in
    let r2 : Record = record r1 { same_site = r.same_site } in
    let r3 : Record = record r2 { partitioned = kept (is_set r.partitioned) } in
    let r4 : Record = record r3 { secure = kept (prints_secure r) } in
    let r5 : Record = record r4 { path = r.path } in
    let r6 : Record = record r5 { domain = domain_of r } in
    let r7 : Record = record r6 {
      max_age = option_map (λ nanos. not_below_zero
          (whole_seconds nanos) *ℤ pos 1_000_000_000) r.max_age;
    } in
    let o8 : List (Option Attribute) = end_of r.expires ∷ [] in
    let o7 : List (Option Attribute) = option_map (λ nanos. MaxAge (whole_seconds nanos)) r.max_age ∷ o8 in
    let o6 : List (Option Attribute) = option_map Domain (domain_of r) ∷ o7 in
    let o5 : List (Option Attribute) = option_map Path r.path ∷ o6 in
    let o4 : List (Option Attribute) = flag (prints_secure r) Secure ∷ o5 in
    let o3 : List (Option Attribute) = flag (is_set r.partitioned) Partitioned ∷ o4 in
    let o2 : List (Option Attribute) = option_map OfSite r.same_site ∷ o3 in
    http_only o2 (bare r.name r.value) (is_set r.http_only) refl
    ∙ same_site o3 r1 r.same_site refl
    ∙ partitioned o4 r2 (is_set r.partitioned) refl
    ∙ secure o5 r3 (prints_secure r) refl
    ∙ path o6 r4 r.path refl
    ∙ domain o7 r5 (domain_of r) refl
    ∙ max_age o8 r6 r.max_age refl
    ∙ expires [] r7 r.expires refl
