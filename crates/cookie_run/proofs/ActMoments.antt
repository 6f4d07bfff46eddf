-- The moments of acts, one after another.
use Rattle.std.proofs.Common.{◌≡◌, ℤ, List, [], ◌∷◌, ◌++◌, refl}
use Rattle.cookie_client.specs.Steps.{Act, Visits, Answers, Asks, Restarts, Arrival, Arrives, Never}
use Rattle.cookie_run.specs.Acts.{moments_in, opening_of, arrival_in}
use Rattle.cookie_run.specs.Moments.{AllFollow, last_of}

-- the last moment of an exchange
abbrev pub end_moment : ℤ → Arrival → ℤ
end_moment now (Arrives at) = at
end_moment now Never = now

-- the last moment of an act
abbrev pub ends_at : Act → ℤ
ends_at act = end_moment (opening_of act) (arrival_in act)

pub front_follows : (last : ℤ) (act : Act) (later : List ℤ) → AllFollow last (moments_in act ++ later)
    → AllFollow last (moments_in act) × AllFollow (ends_at act) later
front_follows last (Visits url at commands (Arrives d)) later f = ((f.0, (f.1.0, tt)), f.1.1)
front_follows last (Visits url at commands Never) later f = ((f.0, tt), f.1)
front_follows last (Answers url lines at) later f = ((f.0, tt), f.1)
front_follows last (Asks url at) later f = ((f.0, tt), f.1)
front_follows last (Restarts at) later f = ((f.0, tt), f.1)

pub ends_last : (last : ℤ) (act : Act) → ends_at act ≡ last_of last (moments_in act)
ends_last last (Visits url at commands (Arrives d)) = refl
ends_last last (Visits url at commands Never) = refl
ends_last last (Answers url lines at) = refl
ends_last last (Asks url at) = refl
ends_last last (Restarts at) = refl

pub last_append : (last : ℤ) (ms ns : List ℤ) → last_of last (ms ++ ns) ≡ last_of (last_of last ms) ns
last_append last [] ns = refl
last_append last (m ∷ ms) ns = last_append m ms ns
