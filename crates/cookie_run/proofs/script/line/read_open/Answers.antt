use Rattle.std.proofs.Common.{◌≡◌, ◌<◌, ◌≤◌, List, ℕ, [], ◌∷◌, length, get_or, arith, Some, Ok}
use Rattle.std.specs.Prelude.{map}
use denote.Ref.{Bor}
use Rattle.jiff.specs.Types.{DateTime}
use Rattle.url.specs.Parts.{Parts}
use Rattle.cookie_client.specs.Moment.{moment_date}
use Rattle.cookie_client.specs.Hosts.{url_of}
use Rattle.cookie_run.specs.ScriptLine.{placed, read_open, Opens}
use Rattle.cookie_run.proofs.script.line.read_open.Goals as goal

open_read : (fields : List (Bor (List ℕ))) (d e : Bor (List ℕ)) (url : Parts) (at : DateTime) → 2 ≤ length fields
    → length fields < 3
    → url_of (get_or fields 0 d).now ≡ Some url → moment_date (get_or fields 1 e).now ≡ Some at
    → read_open (map (λ field. field.now) fields) ≡ Ok (Opens url at)
open_read [] d e url at low high u m = absurd (omega (arith, low))
open_read (a ∷ []) d e url at low high u m = absurd (omega (arith, low))
open_read (a ∷ b ∷ []) d e url at low high u m = λ i. placed Opens (u i) (m i)
open_read (a ∷ b ∷ x ∷ more) d e url at low high u m = absurd (omega (arith, high))

pub returns : goal.returns
returns c = open_read c.args.fields.now _ _ c.in_ok-url.url
    c.in_ok-at.at.date c.in-len2.len_at_least c.in-len2.len_below c.in_ok-url.ensures.url
    c.in_ok-at.ensures.date
