use Rattle.std.proofs.Common.{◌≡◌, ℕ, List, map, take}
use Rattle.std.specs.List.{list_any}
use Rattle.cookie_store.specs.Given.{lent_row}
use Rattle.user_agent.specs.SecureWins.{is_in, is_secure_of}
use Rattle.user_agent.proofs.secure_wins.secure_names.Given as goal

abbrev pub invariant-loop-i : goal.invariant-loop-i
invariant-loop-i l =
    (name : List ℕ) → is_in l.names name
    ≡ list_any (is_secure_of name) (map lent_row (take l.i l.cookies.items))
