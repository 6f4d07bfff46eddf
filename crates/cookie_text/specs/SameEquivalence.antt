-- No definition, but a proof, which stands here because the law of `PartialEq` cites it: `==` is an equivalence.
use Rattle.std.specs.Prelude.{Bool, Option, ℕ, List}
use Rattle.std.specs.Bool.{beq}
use Rattle.std.specs.Cmp.{IsEquivalence, on_equiv, and_equiv, bool_eq_equiv, int_eq_equiv}
use Rattle.std.specs.Cmp.Lexicographic.{options_equiv, nat_list_eq_equiv}
use Rattle.std.specs.Option.{option_eq}
use Rattle.std.specs.Ordering.{on}
use Rattle.std.specs.Str.{bytes_eq}
use Rattle.cookie_text.specs.Record.{Record, compared}
use Rattle.cookie_text.specs.Same.{end_nanos, same_pair, same_flags, same_place, same_life, same_cookie}

flag_equiv : (f : Record → Option Bool) → IsEquivalence (on f (option_eq beq))
flag_equiv f = on_equiv f (options_equiv bool_eq_equiv)

text_equiv : (f : Record → Option (List ℕ)) → IsEquivalence (on f (option_eq bytes_eq))
text_equiv f = on_equiv f (options_equiv nat_list_eq_equiv)

pair_equiv : IsEquivalence same_pair
pair_equiv = and_equiv (on_equiv (λ r. r.name) nat_list_eq_equiv) (on_equiv (λ r. r.value) nat_list_eq_equiv)

flags_equiv : IsEquivalence same_flags
flags_equiv =
    and_equiv (and_equiv (flag_equiv (λ r. r.http_only)) (flag_equiv (λ r. r.secure)))
    (flag_equiv (λ r. r.partitioned))

place_equiv : IsEquivalence same_place
place_equiv = and_equiv (text_equiv (λ r. r.path)) (text_equiv (λ r. r.domain))

life_equiv : IsEquivalence same_life
life_equiv =
    and_equiv (on_equiv (λ r. r.max_age) (options_equiv int_eq_equiv))
    (on_equiv (λ r. r.expires) (options_equiv (on_equiv end_nanos (options_equiv int_eq_equiv))))

-- `==` is an equivalence
pub same_cookie_equiv : IsEquivalence same_cookie
same_cookie_equiv =
    on_equiv (λ s. compared s.cookie)
    (and_equiv (and_equiv (and_equiv pair_equiv flags_equiv) place_equiv) life_equiv)
