-- A saved row as a text shows it: its raw cookie and its date are texts.
use Rattle.std.specs.Prelude.{ℕ, List, Bool, Option}

pub data Domain : Type 0 where
  host_only : List ℕ → Domain
  suffix : List ℕ → Domain
  not_present : Domain
  empty : Domain

pub record Shown : Type 0 where
  pub raw : List ℕ
  pub path : List ℕ
  -- whether an attribute gave the path
  pub from_attribute : Bool
  pub domain : Domain
  -- the date of its death, or none at the end of the session
  pub expires : Option (List ℕ)
