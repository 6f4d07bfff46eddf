-- A request has one header.
use Rattle.std.proofs.Common.{◌≡◌, ◌∙◌, ℕ, ℤ, List, ap, inl, inr, map, subst, sym}
use Rattle.cookie_client.specs.Header.{header_of}
use Rattle.cookie_store.specs.Given.{AreGiven, pair_of}
use Rattle.cookie_store.specs.Laws.{GivenOnce, OneOrder}
use Rattle.cookie_store.specs.Longest.{AreLongestFirst}
use Rattle.cookie_store.specs.Rows.{Row}
use Rattle.publicsuffix.specs.Rules.{Rule}
use Rattle.url.specs.Parts.{Parts}
use Rattle.user_agent.specs.CrossSite.{IsHeaderFor, OneHeader, OneHeaderBehind}
use Rattle.user_agent.specs.Headers.{shown}
use Rattle.user_agent.specs.declared.rules.Rules.{Rules}
use Rattle.user_agent.specs.declared.sites.Initiator.{Initiator}

module _ (given_once : GivenOnce) (order : OneOrder) where
  -- the rows that a request is given, longer paths first, are one list
  one_list : (rows : List Row) (url : Parts) (now : ℤ) (a b firsts others : List Row) → AreGiven rows url now a
      → AreGiven rows url now b → AreLongestFirst a firsts → AreLongestFirst b others → firsts ≡ others
  one_list rows url now a b firsts others given other first last =
      let same : a ≡ b = given_once rows a b url now given other in
      order.one a firsts others first (subst (λ (rs : List Row). AreLongestFirst rs others) (sym same) last)

  pub one_header_behind : OneHeaderBehind
  one_header_behind rules rows url now one other h g =
      let same : h.given ≡ g.given =
      one_list rows url now h.are_given.0 g.are_given.0 h.given g.given h.are_given.1 g.are_given.1 h.are_given.2
      g.are_given.2 in
      h.printed ∙ (ap (λ rs. header_of (map pair_of (shown rules rs))) same ∙ sym g.printed)

  pub one_header : OneHeader
  one_header rules list rows url initiator now one other (inl h) (inl g) =
      one_header_behind rules _ url now one other h.1 g.1
  one_header rules list rows url initiator now one other (inl h) (inr g) = absurd (g.0 h.0)
  one_header rules list rows url initiator now one other (inr h) (inl g) = absurd (h.0 g.0)
  one_header rules list rows url initiator now one other (inr h) (inr g) =
      one_header_behind rules rows url now one other h.1 g.1
