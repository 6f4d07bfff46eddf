-- What the private functions of `dates` keep of a date, token by token. No contract of a public call cites a word of
-- this file.
use Rattle.std.specs.Prelude.{◌≡◌, ◌⊎◌, ℕ, ◌<◌, ◌≤◌, List, Option, Some, None, IfSome, IsSome}
use Rattle.cookie_text.specs.Date.{full_year}
use Rattle.user_agent.specs.declared.dates.Found.{Found}
use Rattle.user_agent.specs.Dates.{Date, Exists, IsTime, IsDay, IsMonth, IsYear}

abbrev pub nothing : Found
nothing = record { time = None; day = None; month = None; year = None }

-- the numbers fit what the calendar's constructor takes
pub record IsSmall (f : Found) : Type 0 where
  pub time : IfSome f.time (λ t. (t.0 < 100) × (t.1 < 100) × (t.2 < 100))
  pub day : IfSome f.day (λ d. d < 100)
  pub month : IfSome f.month (λ m. m ≤ 12)
  pub year : IfSome f.year (λ y. y ≤ 9999)

-- what an empty place takes, and the token that is left then
abbrev pub Offers : {A : Type 0} → (List ℕ → A → Type 0) → Option A → Option A → Option (List ℕ) → Option (List ℕ)
    → Type 0
Offers {A} Kind old new None left = (new ≡ old) × (left ≡ None)
Offers {A} Kind old new (Some token) left =
    ((x : A) × (old ≡ None) × Kind token x × (new ≡ Some x) × (left ≡ None))
    ⊎ ((IsSome old ⊎ ((x : A) → ¬ (Kind token x))) × (new ≡ old) × (left ≡ Some token))

-- the token is offered to each kind
pub record Takes (old : Found) (token : List ℕ) (new : Found) : Type 0 where
  pub timeless : Option (List ℕ)
  pub dayless : Option (List ℕ)
  pub monthless : Option (List ℕ)
  pub yearless : Option (List ℕ)
  pub time : Offers IsTime old.time new.time (Some token) timeless
  pub day : Offers IsDay old.day new.day timeless dayless
  pub month : Offers IsMonth old.month new.month dayless monthless
  pub year : Offers IsYear old.year new.year monthless yearless

-- the date of these numbers
abbrev pub date_of : ℕ → ℕ → ℕ → ℕ × ℕ × ℕ → Date
date_of year month day time = record {
  year = year;
  month = month;
  day = day;
  hour = time.0;
  minute = time.1;
  second = time.2;
}

-- the date of what was found
pub record Makes (f : Found) (d : Date) : Type 0 where
  pub written : ℕ
  pub time : f.time ≡ Some (d.hour, d.minute, d.second)
  pub day : f.day ≡ Some d.day
  pub month : f.month ≡ Some d.month
  pub year : f.year ≡ Some written
  pub full : full_year written ≡ d.year
  pub late : 1601 ≤ d.year
  pub exists : Exists d
