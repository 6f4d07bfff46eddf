-- The rows of every play are held rightly.
use Rattle.std.proofs.Common.{Bool, ℕ, ℤ, List, [], ◌∷◌, sym, subst}
use Rattle.std.specs.List.{AllByRecursion}
use Rattle.cookie.specs.Jar.{Jar}
use Rattle.cookie_text.specs.Again.{BoundReadAgain, PairsReadAgain, TextsGivePairs}
use Rattle.publicsuffix.specs.Rules.{Rule}
use Rattle.url.specs.Parts.{Parts}
use Rattle.cookie_store.specs.Rows.{Row}
use Rattle.cookie_client.specs.Accept.{AcceptsAll}
use Rattle.cookie_client.specs.Steps.{Act, Visits, Answers, Asks, Restarts, Arrival, Arrives, Never, Delivers, OneStep}
use Rattle.cookie_client.specs.HostPrefix.{IsHeldRightly, AreHeldRightly}
use Rattle.cookie_run.specs.HostRows.{PlaysHoldRightly}
use Rattle.cookie_client.specs.Keeping.{HasReadPair, HaveReadPairs}
use Rattle.cookie_run.specs.Play.{Plays}
use Rattle.cookie_client.specs.declared.outcome.LineEnd.{LineEnd}
use Rattle.cookie_client.specs.declared.command.Reading.{Reading}
use Rattle.cookie_client.proofs.ClientRows.{kept_pairs}
use Rattle.cookie_client.proofs.ComingBack.{lines_from, pair_made}
use Rattle.cookie_client.proofs.HostRows.{made_held, expired_held, alone_held, kept_held}

-- ---- a play

-- a row of a client
abbrev IsClients : Row → Type 0
IsClients row = HasReadPair row × IsHeldRightly row

both_of : (rows : List Row) → HaveReadPairs rows → AreHeldRightly rows → AllByRecursion IsClients rows
both_of [] own held = tt
both_of (r ∷ rs) own held = ((own.0, held.0), both_of rs own.1 held.1)

pairs_of : (rows : List Row) → AllByRecursion IsClients rows → HaveReadPairs rows
pairs_of [] all = tt
pairs_of (r ∷ rs) all = (all.0.0, pairs_of rs all.1)

held_of : (rows : List Row) → AllByRecursion IsClients rows → AreHeldRightly rows
held_of [] all = tt
held_of (r ∷ rs) all = (all.0.1, held_of rs all.1)

module _ (give : TextsGivePairs) (law : PairsReadAgain) (bound : BoundReadAgain) (list : List Rule) (key : List ℕ) where
  lines_clients : (url : Parts) (now : ℤ) (lines : List (List ℕ)) (rows : List Row) (ends : List LineEnd)
      (new : List Row) → AllByRecursion IsClients rows → AcceptsAll list rows url now lines ends new
      → AllByRecursion IsClients new
  lines_clients url now lines rows ends new =
      lines_from IsClients (λ r h. (h.0, expired_held r h.1)) (λ r h. (h.0, alone_held r h.1)) (λ _. Unit {0})
      (λ line s url now made _ free utf8 reads is.
      (pair_made give line s url now made utf8 reads is, made_held line s url now made free utf8 reads is))
      list url now lines rows ends new tt

  delivered_clients : (url : Parts) (jar : Jar) (arrival : Arrival) (rows new : List Row)
      → AllByRecursion IsClients rows → Delivers list rows url jar arrival new → AllByRecursion IsClients new
  delivered_clients url jar Never rows new all d = subst (AllByRecursion IsClients) (sym d) all
  delivered_clients url jar (Arrives at) rows new all d = lines_clients url at _ rows d.2.0 new all d.2.1

  step_clients : (b : Bool) (act : Act) (told : List Reading) (rows new : List Row) → AllByRecursion IsClients rows
      → OneStep b list key rows act told new → AllByRecursion IsClients new
  step_clients b (Visits url at commands arrival) told rows new all s =
      delivered_clients url s.2.0.jar arrival rows new all s.2.2
  step_clients b (Answers url lines at) told rows new all s = lines_clients url at lines rows s.1.0 new all s.1.1
  step_clients b (Asks url at) told rows new all s = subst (AllByRecursion IsClients) (sym s.1) all
  step_clients b (Restarts at) told rows new all s =
      both_of new (kept_pairs rows at (pairs_of rows all) new s.1)
      (kept_held law bound rows at at new (pairs_of rows all) (held_of rows all) s.1)

  plays_clients : (b : Bool) (acts : List Act) (told : List (List Reading)) (rows new : List Row)
      → AllByRecursion IsClients rows → Plays b list key rows acts told new → AllByRecursion IsClients new
  plays_clients b [] [] rows new all p = subst (AllByRecursion IsClients) (sym p) all
  plays_clients b [] (t ∷ ts) rows new all p = absurd p
  plays_clients b (a ∷ acts) [] rows new all p = absurd p
  plays_clients b (a ∷ acts) (t ∷ ts) rows new all p =
      plays_clients b acts ts p.0 new (step_clients b a t rows p.0 all p.1) p.2

pub plays_hold : (give : TextsGivePairs) (law : PairsReadAgain) (bound : BoundReadAgain) → PlaysHoldRightly
plays_hold give law bound b list key acts told rows p =
    held_of rows (plays_clients give law bound list key b acts told [] rows tt p)
