-- A text that begins with a pair reads as a cookie, so far as nothing refutes that it does. Which attributes its other
-- pieces give isn't computed here: a refusal is wrong whichever they are.
use Rattle.std.proofs.Common.{◌≡◌, ℕ, ◌<◌, ◌≤◌, ◌==◌, ltb, true, false, List, [], ◌∷◌, length, sym, refl, ap, subst}
use Rattle.std.proofs.Common.{◌∙◌, arith}
use Rattle.std.proofs.Common.{⊎_elim, Ok, Err}
use Rattle.std.specs.Prelude.{Option, Some, None}
use Rattle.std.specs.List.{position_or_len}
use Rattle.std.proofs.lemmas.Bool.{cases_Bool, ltb-true}
use Rattle.std.proofs.lemmas.Bool.Decides.{nat_tests}
use Rattle.std.proofs.lemmas.List.{take_all}
use Rattle.std.proofs.lemmas.List.Elements.{All-nil, All-cons, All-from_get_or}
use Rattle.std.proofs.lemmas.List.Splits.{slice_split_first, slice_split_none}
use Rattle.std.proofs.lemmas.List.Sums.{fails_before_first}
use Rattle.cookie_text.specs.Attribute.{HttpOnly, Secure, Partitioned}
use Rattle.cookie_text.specs.Pieces.{semicolon, pieces, name_of, text_after}
use Rattle.cookie_text.specs.Reading.{HasLast, HasAttributes, GivesFlag, GivesSite, GivesAge, GivesPath, GivesDomain}
use Rattle.cookie_text.specs.Reading.{GivesEnd, IsPair, ReadsPlain, first_piece}
use Rattle.cookie_text.specs.Record.{Record, Seen, domain_of}

-- nothing refutes it
abbrev pub IsUnrefuted : Type 0 → Type 0
IsUnrefuted P = (P → ⊥) → ⊥

last_given : {A : Type 0} (gives : List ℕ → A → Type 0) (pieces : List (List ℕ))
    → IsUnrefuted ((o : Option A) × HasLast gives pieces o)
last_given gives [] refuted = refuted (None, All-nil (λ piece. (a : _) → ¬ (gives piece a)))
last_given {A} gives (p ∷ ps) refuted = last_given gives ps (λ last. by last.0 last.1)
  where
    by : (o : Option A) → HasLast gives ps o → ⊥
    by (Some a) h = refuted (
      Some a,
      record {
        before = p ∷ h.before;
        piece = h.piece;
        after = h.after;
        split = ap (λ l. p ∷ l) h.split;
        given = h.given;
        later = h.later;
      },
    )
    by None h = refuted (
      None,
      All-cons (λ piece. (a : A) → ¬ (gives piece a)) p ps
          (λ a given. refuted (
            Some a,
            record {
              before = [];
              piece = p;
              after = ps;
              split = refl;
              given = given;
              later = h;
            },
          ))
          h,
    )

-- the first piece, and those behind it
cut_first : (text : List ℕ) → (rest : List (List ℕ)) × (pieces text ≡ first_piece text ∷ rest)
cut_first text =
    ⊎_elim
    (λ (e : ltb (position_or_len (λ b. b == semicolon) text) (length text) ≡ true).
    (_, slice_split_first (λ b. b == semicolon) text 0 (ltb-true _ _ e)))
    (λ (e : ltb (position_or_len (λ b. b == semicolon) text) (length text) ≡ false).
    let past : length text ≤ position_or_len (λ b. b == semicolon) text = grind (arith, nat_tests, e) in (
      [],
      slice_split_none (λ b. b == semicolon) text
          (All-from_get_or (λ x. (x == semicolon) ≡ false) text 0
          (λ i within. fails_before_first (λ b. b == semicolon) text i 0 (omega arith)))
          ∙ ap (λ l. l ∷ []) (sym (take_all (position_or_len (λ b. b == semicolon) text) text past)),
    ))
    (cases_Bool (ltb (position_or_len (λ b. b == semicolon) text) (length text)))

attributes_given : (name value : List ℕ) (pieces : List (List ℕ))
    → IsUnrefuted ((r : Record) × (r.name ≡ name) × (r.value ≡ value) × HasAttributes pieces r)
attributes_given name value pieces refuted =
    last_given (GivesFlag HttpOnly) pieces (λ http_only.
    last_given (GivesFlag Secure) pieces (λ secure.
    last_given (GivesFlag Partitioned) pieces (λ partitioned.
    last_given GivesSite pieces (λ same_site.
    last_given GivesAge pieces (λ max_age.
    last_given GivesPath pieces (λ path.
    last_given GivesDomain pieces (λ domain.
    last_given GivesEnd pieces (λ expires.
    refuted (
      record {
        name = name;
        value = value;
        http_only = http_only.0;
        secure = secure.0;
        partitioned = partitioned.0;
        same_site = same_site.0;
        max_age = max_age.0;
        path = path.0;
        domain = domain.0;
        expires = expires.0;
      },
      refl,
      refl,
      record {
        http_only = http_only.1;
        secure = secure.1;
        partitioned = partitioned.1;
        same_site = same_site.1;
        max_age = max_age.1;
        path = path.1;
        domain = domain.1;
        expires = expires.1;
      },
    )))))))))

ok_is_no_err : {T E : Type 0} (x : T) (e : E) → Ok x ≡ Err e → ⊥
ok_is_no_err x e h = cc

pub pair_reads : (text : List ℕ) → IsPair (first_piece text) → IsUnrefuted ((s : Seen) × ReadsPlain text (Ok s))
pair_reads text pair refuted =
    let cut = cut_first text in
    attributes_given (name_of (first_piece text)) (text_after (first_piece text)) cut.0 (λ given.
    let r : Record = given.0 in
    refuted (
      record {
        cookie = r;
        raw = record { name = Some r.name; value = Some r.value; path = r.path; domain = domain_of r };
      },
      record {
        accepted = ((λ _. pair), (λ _. refl));
        name = (pair.0, given.1, subst (λ n. 0 < length n) (sym given.1) pair.1);
        value = given.2;
        attributes = (cut.0, cut.1, given.3);
        raw = record { name = refl; value = refl; path = refl; domain = refl };
        missing_pair = ((λ e. absurd (ok_is_no_err _ _ e)), (λ none. absurd (none pair.0)));
        empty_name = (
          (λ e. absurd (ok_is_no_err _ _ e)),
          (λ empty. absurd (nothing_below (subst (λ n. 0 < length n) empty.1 pair.1))),
        );
      },
    ))
  where
    nothing_below : 0 < 0 → ⊥
    nothing_below h = omega arith
