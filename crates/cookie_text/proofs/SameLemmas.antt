-- `==` on cookies decides whether what it compares is equal.
use Rattle.std.proofs.Common.{◌≡◌, Bool, true, false, Option, Some, None, refl, ap}
use Rattle.std.specs.Bool.{Decides, beq}
use Rattle.std.specs.Option.{option_eq}
use Rattle.std.specs.Ordering.{int_eq}
use Rattle.std.specs.Str.{bytes_eq}
use Rattle.std.proofs.lemmas.Bool.Decides.{Decides-and, Decides-like, Decides-int_eq}
use Rattle.std.proofs.lemmas.Option.{same_Some}
use Rattle.std.proofs.lemmas.Slice.Eq.{bytes_eq-Decides}
use Rattle.jiff.proofs.Family.{same_datetime}
use Rattle.jiff_core.specs.DateTime.{civil_nanos}
use Rattle.cookie_text.specs.declared.expiration.Expiration.{Expiration}
use Rattle.cookie_text.specs.declared.expiration.Expiration.TheVariants.{DateTime as At, Session}
use Rattle.cookie_text.specs.Record.{Record, Seen, compared}
use Rattle.cookie_text.specs.Same.{end_nanos, same_record, same_cookie}

option_eq-Decides : {A : Type 0} (E : A → A → Bool) → ((x y : A) → Decides (E x y) (x ≡ y)) → (o p : Option A)
    → Decides (option_eq E o p) (o ≡ p)
option_eq-Decides E each None None = (λ e. refl, λ e. refl)
option_eq-Decides E each None (Some y) = (λ e. cc, λ e. cc)
option_eq-Decides E each (Some x) None = (λ e. cc, λ e. cc)
option_eq-Decides E each (Some x) (Some y) =
    let d = each x y in
    (λ e. ap (λ z. Some z) (d.0 e), λ e. d.1 (same_Some x y e))

beq-Decides : (x y : Bool) → Decides (beq x y) (x ≡ y)
beq-Decides true true = (λ e. refl, λ e. refl)
beq-Decides true false = (λ e. cc, λ e. cc)
beq-Decides false true = (λ e. cc, λ e. cc)
beq-Decides false false = (λ e. refl, λ e. refl)

end_nanos-Decides : (x y : Expiration) → Decides (option_eq int_eq (end_nanos x) (end_nanos y)) (x ≡ y)
end_nanos-Decides (At d) (At e) =
    let t = Decides-int_eq (civil_nanos d) (civil_nanos e) in
    (λ h. ap (λ m. At m) (same_datetime d e (t.0 h)), λ h. t.1 (let inner : d ≡ e = cc in ap civil_nanos inner))
end_nanos-Decides (At d) Session = (λ h. cc, λ h. cc)
end_nanos-Decides Session (At e) = (λ h. cc, λ h. cc)
end_nanos-Decides Session Session = (λ h. refl, λ h. refl)

-- records whose same_site is equal
same_record-Decides : (a b : Record) → a.same_site ≡ b.same_site → Decides (same_record a b) (a ≡ b)
same_record-Decides a b site =
    let flag = option_eq-Decides beq beq-Decides in
    let text = option_eq-Decides bytes_eq bytes_eq-Decides in
    let pair = Decides-and _ _ (bytes_eq-Decides a.name b.name) (bytes_eq-Decides a.value b.value) in
    let flags = Decides-and _ _ (Decides-and _ _ (flag a.http_only b.http_only) (flag a.secure b.secure))
    (flag a.partitioned b.partitioned) in
    let place = Decides-and _ _ (text a.path b.path) (text a.domain b.domain) in
    let life = Decides-and _ _ (option_eq-Decides int_eq Decides-int_eq a.max_age b.max_age)
    (option_eq-Decides (λ x y. option_eq int_eq (end_nanos x) (end_nanos y)) end_nanos-Decides a.expires b.expires)
    in
    Decides-like (same_record a b)
    (λ h i. record {
      name = h.0.0.0.0 i;
      value = h.0.0.0.1 i;
      http_only = h.0.0.1.0.0 i;
      secure = h.0.0.1.0.1 i;
      partitioned = h.0.0.1.1 i;
      same_site = site i;
      max_age = h.1.0 i;
      path = h.0.1.0 i;
      domain = h.0.1.1 i;
      expires = h.1.1 i;
    })
    (λ e. (
      (
        (
          (ap (λ r. r.name) e, ap (λ r. r.value) e),
          (
            (ap (λ r. r.http_only) e, ap (λ r. r.secure) e),
            ap
                (λ r. r.partitioned) e,
          ),
        ),
        (ap (λ r. r.path) e, ap (λ r. r.domain) e),
      ),
      (ap (λ r. r.max_age) e, ap (λ r. r.expires) e),
    ))
    (Decides-and _ _ (Decides-and _ _ (Decides-and _ _ pair flags) place) life)

pub same_cookie-Decides : (a b : Seen) → Decides (same_cookie a b) (compared a.cookie ≡ compared b.cookie)
same_cookie-Decides a b = same_record-Decides (compared a.cookie) (compared b.cookie) refl
