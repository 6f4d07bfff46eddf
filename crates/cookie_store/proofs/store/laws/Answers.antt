use Rattle.cookie_store.specs.Given.{IsGiven}
use Rattle.cookie_store.specs.Rows.{key_of}
use Rattle.cookie_store.proofs.Confinement.{inserts_confined}
use Rattle.cookie_store.proofs.EndLemmas.{picked_once, inserts_once, inserts_apart, inserted_got}
use Rattle.cookie_store.proofs.GroupedLemmas.{parts_stay}
use Rattle.cookie_store.proofs.LongestLemmas.{an_order, one_order}
use Rattle.cookie_store.proofs.PlaceLaws.{others_stay, put_is_found, comes_last}
use Rattle.cookie_store.proofs.store.laws.Goals as goal

pub returns-clause-given : goal.returns-clause-given
returns-clause-given c = λ rows a b url now g h. picked_once (λ row. IsGiven row url now) rows a b g h

pub returns-clause-order : goal.returns-clause-order
returns-clause-order c = record { there = an_order; one = one_order }

pub returns-clause-ends : goal.returns-clause-ends
returns-clause-ends c = λ list rows url now row a b g h. inserts_once rows url now a b list row g h

pub returns-clause-apart : goal.returns-clause-apart
returns-clause-apart c = λ list rows url now row end how apart. inserts_apart rows url now end apart list row how

pub returns-clause-got : goal.returns-clause-got
returns-clause-got c = λ list rows url now row action new lives how. inserted_got rows url now action new list row
    lives how

pub returns-clause-local : goal.returns-clause-local
returns-clause-local c = record {
  there = put_is_found;
  others = λ t row out apart rows. others_stay t (key_of row) row out apart rows;
}

pub returns-clause-last : goal.returns-clause-last
returns-clause-last c = comes_last

pub returns-clause-confined : goal.returns-clause-confined
returns-clause-confined c = λ list rows url now row end how. inserts_confined list rows url now end row how

pub returns-clause-parts : goal.returns-clause-parts
returns-clause-parts c = parts_stay
