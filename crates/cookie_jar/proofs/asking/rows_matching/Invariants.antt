use Rattle.std.specs.Prelude.{[]}
use Rattle.jiff.specs.Words.{civil_nanos}
use Rattle.store_parts.specs.DomainMatch.{DomainMatches}
use Rattle.cookie_store.specs.Rows.{domain_text, live}
use Rattle.cookie_jar.specs.Rows.{lent_rows}
use Rattle.cookie_jar.proofs.RowLemmas.{PicksSoFar}
use Rattle.cookie_jar.proofs.asking.rows_matching.Given as goal

abbrev pub invariant-loop-cookie : goal.invariant-loop-cookie
invariant-loop-cookie l =
    PicksSoFar (λ row. DomainMatches (domain_text row) l.domain) [] (live (civil_nanos l.fn.now) l.store.rows)
    (lent_rows l.rows.items) l.cookie-iterator
