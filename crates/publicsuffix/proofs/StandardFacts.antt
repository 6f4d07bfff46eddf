-- The definitions at the rules `*.ck` and `!www.ck`, as the published list has them.
use Rattle.std.proofs.Common.{◌≡◌, ◌≢◌, ℕ, ◌⊎◌, true, false, List, [], ◌∷◌, ◌++◌, length, Contains, refl, sym, ap}
use Rattle.std.proofs.Common.{subst, inl, inr, arith}
use Rattle.std.specs.Prelude.{Some, None, codes, get_or}
use Rattle.std.specs.List.{AllZip}
use Rattle.std.proofs.lemmas.List.{length-append}
use Rattle.std.proofs.lemmas.List.Elements.{All-cons, All-nil, Contains-append_left, Contains-push, Contains-push_cases}
use Rattle.std.proofs.lemmas.Slice.Zip.{AllZip-long}
use Rattle.idna.specs.Labels.{labels_of}
use Rattle.publicsuffix.specs.Prevailing.{Fits, GoesBefore, IsName, IsSuffix, Listed, Matches, Prevails, covered}
use Rattle.publicsuffix.specs.Prevailing.{without_last_dot}
use Rattle.publicsuffix.specs.Rules.{Rule, Wildcard, Text, byte_order_mark, exception_of, is_one_label, label_of}
use Rattle.publicsuffix.specs.Rules.{without_mark}
use Rattle.publicsuffix.proofs.PrevailingLemmas.{covered-same}

-- `*.ck`
abbrev any_ck : Rule
any_ck = record { is_exception = false; labels = Wildcard ∷ Text (codes "ck") ∷ [] }

-- `!www.ck`
abbrev not_www_ck : Rule
not_www_ck = record { is_exception = true; labels = Text (codes "www") ∷ Text (codes "ck") ∷ [] }

abbrev rules : List Rule
rules = any_ck ∷ not_www_ck ∷ []

either_rule : (rule : Rule) → Contains rules rule → (any_ck ≡ rule) ⊎ (not_www_ck ≡ rule)
either_rule rule held =
    elim (Contains-push_cases (any_ck ∷ []) not_www_ck rule held) [
      | inl first ↦
          elim (Contains-push_cases [] any_ck rule first) [
            | inl none ↦ absurd (omega (arith, none.1))
            | inr same ↦ inl same
          ]
      | inr second ↦ inr second
    ]

-- an exception covers one label less than it has, and has two or more
pub covered_labels : (covered any_ck ≡ 2) × (covered not_www_ck ≡ 1) × (exception_of (Text (codes "ck") ∷ []) ≡ None)
covered_labels = (refl, refl, refl)

-- `*` is a wildcard, the empty text no label, and a form with a full stop not one
pub labels : (label_of (codes "*") ≡ Some Wildcard) × (label_of [] ≡ None) × (is_one_label (codes "a.b") ≡ false)
labels = (refl, refl, refl)

-- one full stop at the end of a name is left out
pub last_dots : (without_last_dot (codes "ck.") ≡ codes "ck") × (without_last_dot (codes "ck..") ≡ codes "ck.")
    × (without_last_dot (codes "ck") ≡ codes "ck")
last_dots = (refl, refl, refl)

-- a byte order mark is taken off once
pub marks : (without_mark (byte_order_mark ++ codes "ck") ≡ codes "ck") × (without_mark (codes "ck") ≡ codes "ck")
unfolding without_mark
marks = (refl, refl)

matches_www : Matches not_www_ck (labels_of (codes "www.ck"))
matches_www = record { front = []; back = labels_of (codes "www.ck"); split = refl; fit = (refl, (refl, tt)) }

not_foo_at : (front back : List (List ℕ)) → labels_of (codes "foo.ck") ≡ front ++ back
    → AllZip Fits not_www_ck.labels back → ⊥
not_foo_at [] back split fit =
    let both : AllZip Fits not_www_ck.labels (labels_of (codes "foo.ck")) =
    subst (AllZip Fits not_www_ck.labels) (sym split) fit in
    let differ : 102 ≡ 119 = ap (λ l. get_or l 0 0) both.0 in
    absurd (omega (arith, differ))
not_foo_at (x ∷ xs) back split fit =
    let two : length back ≡ 2 = AllZip-long Fits not_www_ck.labels back fit in
    let whole : 2 ≡ length ((x ∷ xs) ++ back) = ap length split in
    absurd (omega (arith, two, whole, length-append (x ∷ xs) back))

-- the wildcard prevails for `foo.ck`, which is listed
prevails_foo : Prevails rules (labels_of (codes "foo.ck")) any_ck
prevails_foo = record {
  of_list = Contains-append_left (any_ck ∷ []) (not_www_ck ∷ []) any_ck (Contains-push [] any_ck);
  matches = record { front = []; back = labels_of (codes "foo.ck"); split = refl; fit = (tt, (refl, tt)) };
  first = λ other held matches.
      elim (either_rule other held) [
        | inl same ↦ subst (GoesBefore any_ck) same (inr (refl, omega arith))
        | inr same ↦
            let fit : AllZip Fits not_www_ck.labels matches.back =
            subst (λ r. AllZip Fits r.labels matches.back) (sym same) matches.fit in
            absurd (not_foo_at matches.front matches.back matches.split fit)
      ];
}

pub listed_foo : Listed rules (codes "foo.ck")
listed_foo = record { is_name = all_some; rule = any_ck; prevails = prevails_foo; whole = refl }
  where
    all_some : IsName (codes "foo.ck")
    all_some =
        All-cons (λ label. label ≢ []) (codes "foo") (codes "ck" ∷ []) (λ e. let none : 3 ≡ 0 =
        ap length e in absurd (omega (arith, none)))
        (All-cons (λ label. label ≢ []) (codes "ck") [] (λ e. let none : 2 ≡ 0 =
        ap length e in absurd (omega (arith, none)))
        (All-nil (λ label. label ≢ [])))

-- the exception prevails for `www.ck`, whatever stands in front
prevails_www : Prevails rules (labels_of (codes "www.ck")) not_www_ck
prevails_www = record {
  of_list = Contains-push (any_ck ∷ []) not_www_ck;
  matches = matches_www;
  first = λ other held matches.
      elim (either_rule other held) [
        | inl same ↦ subst (GoesBefore not_www_ck) same (inl (refl, refl))
        | inr same ↦ subst (GoesBefore not_www_ck) same (inr (refl, omega arith))
      ];
}

-- so its public suffix is `ck`, which is known
pub suffix_www : IsSuffix rules (codes "www.ck") (record { text = codes "ck"; is_known = true })
suffix_www = (not_www_ck, prevails_www, record { front = codes "www."; split = refl; labels = refl })

-- and it is not listed, though `*.ck` would cover it
pub unlisted_www : Listed rules (codes "www.ck") → ⊥
unlisted_www listed =
    let one : 1 ≡ covered listed.rule =
    covered-same rules (labels_of (codes "www.ck")) not_www_ck listed.rule prevails_www listed.prevails in
    let whole : covered listed.rule ≡ 2 = listed.whole in
    absurd (omega (arith, one, whole))

two_labels : (rule : Rule) → length rule.labels ≡ 2 → Matches rule (labels_of (codes "ck")) → ⊥
two_labels rule two matches =
    let long : length matches.back ≡ length rule.labels = AllZip-long Fits rule.labels matches.back matches.fit in
    let one : 1 ≡ length (matches.front ++ matches.back) = ap length matches.split in
    absurd (omega (arith, long, two, one, length-append matches.front matches.back))

-- no rule matches `ck`, so its public suffix is itself, and isn't known
pub suffix_ck : IsSuffix rules (codes "ck") (record { text = codes "ck"; is_known = false })
suffix_ck = (
  λ rule held matches.
      elim (either_rule rule held) [
        | inl same ↦ two_labels rule (ap (λ r. length r.labels) (sym same)) matches
        | inr same ↦ two_labels rule (ap (λ r. length r.labels) (sym same)) matches
      ],
  record { front = []; split = refl; labels = refl },
)
