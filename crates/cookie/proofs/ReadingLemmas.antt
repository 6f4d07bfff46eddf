-- What is read of a copy of the cookie that was found.
use Rattle.std.proofs.Common.{◌≡◌, ◌↔◌, ℕ, List, Option, Some, None, Result, IfOk, subst}
use Rattle.std.specs.Str.{IsUtf8}
use Rattle.cookie_text.specs.Record.{Seen}
use Rattle.cookie.specs.Sealing.{IsSealing}
use Rattle.cookie.specs.Reading.{Reads, ReadsFound, IsSealed}

pub found_reads : {E : Type 0} (StandsFor : Seen → List ℕ → Type 0) (r : Result (Option Seen) E) (copy stored : Seen)
    (found : Option Seen) → copy ≡ stored → Some stored ≡ found
    → IfOk r (λ read. Reads (StandsFor copy) copy read) → IfOk r (λ read. ReadsFound StandsFor found read)
found_reads StandsFor r copy stored found same is reads =
    subst (λ o. IfOk r (λ read. ReadsFound StandsFor o read)) is
    (subst (λ s. IfOk r (λ read. Reads (StandsFor s) s read)) same reads)

-- ---- the same where the parts of the cookie were read first

-- what is opened of a text under a name, whatever opens
abbrev pub Opens : List ℕ → List ℕ → List ℕ → Option (List ℕ) → Type 0
Opens key name text opened = (value : List ℕ) → (opened ≡ Some value) ↔ (IsUtf8 value × IsSealing key name value text)

of_the_cookie : (key name text : List ℕ) (c : Seen) (opened : Option (List ℕ)) → name ≡ c.cookie.name
    → text ≡ c.cookie.value → Opens key name text opened
    → Opens key c.cookie.name c.cookie.value opened
of_the_cookie key name text c opened named valued opens =
    subst (λ (n : List ℕ). Opens key n c.cookie.value opened) named
    (subst (λ (t : List ℕ). Opens key name t opened) valued opens)

pub opened_some : (key name text : List ℕ) (c : Seen) (opened : Option (List ℕ)) (value : List ℕ) → name ≡ c.cookie.name
    → text ≡ c.cookie.value → Opens key name text opened
    → opened ≡ Some value → IsSealed key c value
opened_some key name text c opened value named valued opens is =
    (of_the_cookie key name text c opened named valued opens value).0 is

pub opened_none : (key name text : List ℕ) (c : Seen) (opened : Option (List ℕ)) → name ≡ c.cookie.name
    → text ≡ c.cookie.value → Opens key name text opened
    → opened ≡ None → (value : List ℕ) → ¬ (IsSealed key c value)
opened_none key name text c opened named valued opens none value h =
    let is : opened ≡ Some value = (of_the_cookie key name text c opened named valued opens value).1 h in
    cc (is, none)
