-- What was written, behind a flush.
use Rattle.std.proofs.Common.{ℕ, List, [], Option, Some, None, sym, ◌∙◌}
use Rattle.std.specs.Io.KnownBytes.{Appends, Keeps}
use Rattle.std.proofs.lemmas.List.{append-nil}
use Rattle.devices.specs.Device.{AppendsFront}

pub appends_kept : (old mid new : Option (List ℕ)) (text : List ℕ) → Appends old mid text → Keeps mid new
    → Appends old new text
appends_kept None mid new text appends keeps = tt
appends_kept (Some xs) None new text appends keeps = absurd appends
appends_kept (Some xs) (Some ys) None text appends keeps = absurd keeps
appends_kept (Some xs) (Some ys) (Some zs) text appends keeps = keeps ∙ appends

pub front_kept : (old mid new : Option (List ℕ)) (text : List ℕ) → Appends old mid text → Keeps mid new
    → AppendsFront old new text
front_kept old mid new text appends keeps =
    (text, [], sym (append-nil text), appends_kept old mid new text appends keeps)
